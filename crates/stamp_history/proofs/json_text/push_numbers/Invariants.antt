use Rattle.std.proofs.Common.{◌≡◌, ◌++◌, take}
use Rattle.std.specs.List.{All}
use Rattle.serde_json.specs.Written.{compact_text}
use Rattle.stamp_history.specs.HistoryLaws.{IsU64}
use Rattle.stamp_history.specs.ReplayText.{number_data, words_data}
use Rattle.stamp_history.proofs.ItemsText.{items_left}
use Rattle.stamp_history.proofs.json_text.push_numbers.Given as goal

abbrev pub invariant-loop-index : goal.invariant-loop-index
invariant-loop-index l = record {
  text : l.text.items ++ items_left number_data l.index l.numbers ≡ l.fn.text.items ++
      compact_text (words_data l.numbers);
  numbers : All IsU64 (take l.index l.numbers);
}
