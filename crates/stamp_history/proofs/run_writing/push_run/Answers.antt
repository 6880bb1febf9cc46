use Rattle.std.proofs.Common.{◌≡◌, ◌∙◌, ◌++◌, List, [], true, codes, ap, refl, arith}
use Rattle.std.proofs.lemmas.Grind.{common_steps}
use Rattle.serde_json.specs.Written.{compact_text, members_text}
use Rattle.serde_json.proofs.OnLiterals.{serde_json_on_literals}
use Rattle.stamp_core.specs.Record.{Recorded}
use Rattle.stamp_core.specs.declared.entry.Entry.{Entry}
use Rattle.stamp_machines.specs.Script.{Scripted}
use Rattle.stamp_machines.specs.Completing.{Completing, before_all}
use Rattle.stamp_machines.specs.World.{finished_calls}
use Rattle.stamp_machines.specs.RecordedRun.{recorded_run}
use Rattle.stamp_history.specs.HistoryText.{entries_data, after_entries, history_data}
use Rattle.stamp_history.proofs.Appending.{onto}
use Rattle.stamp_history.proofs.HistoryParts.{same_record}
use Rattle.stamp_history.proofs.run_writing.push_run.Goals as goal

pub returns : goal.returns
unfolding serde_json_on_literals
returns c =
    let script : Scripted = c.args.script.now in
    let started : Completing = c.in_ok-completions.completions in
    let before : started ≡ before_all script =
    grind (arith, common_steps, c.start.ensures.ok, c.map_err.ensures.cases, c.in_ok-completions.was) in
    let written : List Entry = started.rest in
    let all : written ≡ finished_calls script script.steps = ap (λ (d : Completing). d.rest) before in
    let r : Recorded = record { limits = c.limits.result; width = c.width.result; entries = written; report = [] } in
    let same : r ≡ recorded_run script =
    same_record (recorded_run script) _ _ _ _ c.limits.ensures.limits c.width.ensures.width all refl in
    let entries = compact_text (entries_data written) in
    let rest = members_text true (after_entries r.limits r.width []) in
    onto _ (codes "{\"entries\":") (entries ++ rest) c.in_ok-push_text.ensures
    (onto _ entries rest c.in_ok-push_completions.ensures c.in_ok-push_after_entries.ensures.text)
    ∙ ap (λ (h : Recorded). c.args.text.now.items ++ compact_text (history_data h)) same
