use Rattle.std.proofs.Common.{◌≡◌, ◌++◌, take}
use Rattle.std.specs.List.{All}
use Rattle.serde_json.specs.Written.{compact_text}
use Rattle.stamp_history.specs.HistoryLaws.{EntryIsU64}
use Rattle.stamp_history.specs.HistoryText.{entry_data, entries_data}
use Rattle.stamp_history.proofs.ItemsText.{items_left}
use Rattle.stamp_history.proofs.history_writing.push_entries.Given as goal

abbrev pub invariant-loop-index : goal.invariant-loop-index
invariant-loop-index l = record {
  text : l.text.items ++ items_left entry_data l.index l.entries ≡ l.fn.text.items ++
      compact_text (entries_data l.entries);
  numbers : All EntryIsU64 (take l.index l.entries);
}
