use Rattle.std.proofs.Common.{◌≡◌, ◌∙◌, ◌++◌, List, [], true, codes, ap, subst}
use Rattle.std.specs.List.{All}
use Rattle.serde_json.specs.Written.{compact_text, members_text}
use Rattle.serde_json.proofs.OnLiterals.{serde_json_on_literals}
use Rattle.stamp_core.specs.Limits.{AreInRange}
use Rattle.stamp_explain.specs.declared.observed.Observation.{Observation}
use Rattle.stamp_explain.specs.Observed.{ObservedHistory, observed_as}
use Rattle.stamp_history.specs.HistoryText.{after_entries}
use Rattle.stamp_history.proofs.Appending.{onto}
use Rattle.stamp_observed.specs.inner.ProgramValue.{ObservationIsProgramValue}
use Rattle.stamp_observed.specs.ObservedText.{observations_data, observed_data}
use Rattle.stamp_observed.proofs.ObservedParts.{same_observed}
use Rattle.stamp_observed.proofs.observed_writing.push_observed.Goals as goal

pub returns-clause-text : goal.returns-clause-text
unfolding serde_json_on_literals
returns-clause-text c =
    let h : ObservedHistory = observed_as c.limits.result c.width.result c.entries.result.now in
    let same : h ≡ c.args.observed.now =
    same_observed c.args.observed.now _ _ _ c.limits.ensures c.width.ensures.width c.entries.ensures.entries in
    let entries = compact_text (observations_data h.entries) in
    let rest = members_text true (after_entries h.limits h.width []) in
    onto _ (codes "{\"entries\":") (entries ++ rest) c.in_ok-push_text.ensures
    (onto _ entries rest c.in_ok-push_observations.ensures.text c.in_ok-push_after_entries.ensures.text)
    ∙ ap (λ (o : ObservedHistory). c.args.text.now.items ++ compact_text (observed_data o)) same

pub returns-clause-program_value : goal.returns-clause-program_value
returns-clause-program_value c =
    subst (λ (es : List Observation). All ObservationIsProgramValue es) c.entries.ensures.entries
    c.in_ok-push_observations.ensures.program_value

pub returns-clause-range : goal.returns-clause-range
returns-clause-range c = subst AreInRange c.limits.ensures c.in_ok-push_after_entries.ensures.range
