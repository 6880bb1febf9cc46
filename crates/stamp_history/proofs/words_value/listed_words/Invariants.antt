use Rattle.std.proofs.Common.{◌≡◌, length, take, drop}
use Rattle.serde_json.specs.View.{items_view}
use Rattle.stamp_history.specs.WordsValue.{numbers}
use Rattle.stamp_history.proofs.NumbersSoFar.{with_numbers}
use Rattle.stamp_history.proofs.words_value.listed_words.Given as goal

abbrev pub invariant-loop-i : goal.invariant-loop-i
invariant-loop-i l = record {
  size : length l.held ≡ 16;
  rest : with_numbers (take l.i l.held) (numbers (items_view (drop l.i l.list))) ≡ numbers (items_view l.list);
}
