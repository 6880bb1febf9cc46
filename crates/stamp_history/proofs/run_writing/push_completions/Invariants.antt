use Rattle.std.proofs.Common.{◌≡◌, ◌++◌, length, map}
use Rattle.serde_json.specs.Written.{compact_text, items_text}
use Rattle.serde_json.specs.View.{items_of}
use Rattle.stamp_history.specs.HistoryText.{entry_data, entries_data}
use Rattle.stamp_history.proofs.run_writing.push_completions.Given as goal

abbrev pub invariant-loop-completions : goal.invariant-loop-completions
invariant-loop-completions l = l.text.items ++
    items_text l.is_later (items_of (map entry_data l.completions.rest)) ≡ l.fn.text.items ++
    compact_text (entries_data l.fn.completions.rest)

abbrev pub decreases-loop-completions : goal.decreases-loop-completions
decreases-loop-completions l = length l.completions.rest
