use Rattle.std.proofs.Common.{◌≡◌, ◌++◌, take}
use Rattle.std.specs.List.{All}
use Rattle.serde_json.specs.Written.{compact_text}
use Rattle.stamp_history.specs.HistoryLaws.{PairIsU64}
use Rattle.stamp_history.specs.HistoryText.{pair_data, report_data}
use Rattle.stamp_history.proofs.ItemsText.{items_left}
use Rattle.stamp_history.proofs.history_writing.push_pairs.Given as goal

abbrev pub invariant-loop-index : goal.invariant-loop-index
invariant-loop-index l = record {
  text : l.text.items ++ items_left pair_data l.index l.pairs ≡ l.fn.text.items ++ compact_text (report_data l.pairs);
  numbers : All PairIsU64 (take l.index l.pairs);
}
