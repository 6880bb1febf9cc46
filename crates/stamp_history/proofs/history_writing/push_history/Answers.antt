use Rattle.std.proofs.Common.{◌≡◌, ◌∙◌, ◌++◌, ℕ, List, true, codes, ap, subst}
use Rattle.std.specs.List.{All}
use Rattle.serde_json.specs.Written.{compact_text, members_text}
use Rattle.serde_json.proofs.OnLiterals.{serde_json_on_literals}
use Rattle.stamp_core.specs.Limits.{AreInRange}
use Rattle.stamp_core.specs.Record.{Recorded}
use Rattle.stamp_core.specs.declared.entry.Entry.{Entry}
use Rattle.stamp_history.specs.HistoryLaws.{EntryIsU64, PairIsU64}
use Rattle.stamp_history.specs.HistoryText.{entries_data, after_entries, history_data}
use Rattle.stamp_history.proofs.Appending.{onto}
use Rattle.stamp_history.proofs.HistoryParts.{same_record}
use Rattle.stamp_history.proofs.history_writing.push_history.Goals as goal

pub returns-clause-text : goal.returns-clause-text
unfolding serde_json_on_literals
returns-clause-text c =
    let r : Recorded = record {
      limits = c.limits.result;
      width = c.width.result;
      entries = c.entries.result.now;
      report = c.report.result.now;
    } in
    let same : r ≡ c.args.history.now = same_record c.args.history.now _ _ _ _ c.limits.ensures c.width.ensures
    c.entries.ensures.entries c.report.ensures in
    let entries = compact_text (entries_data r.entries) in
    let rest = members_text true (after_entries r.limits r.width r.report) in
    onto _ (codes "{\"entries\":") (entries ++ rest) c.in_ok-push_text.ensures
    (onto _ entries rest c.in_ok-push_entries.ensures.text c.in_ok-push_after_entries.ensures.text)
    ∙ ap (λ (h : Recorded). c.args.text.now.items ++ compact_text (history_data h)) same

pub returns-clause-numbers : goal.returns-clause-numbers
returns-clause-numbers c = record {
  entries = subst (λ (es : List Entry). All EntryIsU64 es) c.entries.ensures.entries
      c.in_ok-push_entries.ensures.numbers;
  report = subst (λ (pairs : List (ℕ × ℕ)). All PairIsU64 pairs) c.report.ensures
      c.in_ok-push_after_entries.ensures.numbers;
}

pub returns-clause-range : goal.returns-clause-range
returns-clause-range c = subst AreInRange c.limits.ensures c.in_ok-push_after_entries.ensures.range
