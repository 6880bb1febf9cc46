use Rattle.std.proofs.Common.{◌≤◌, length, get_or, refl, arith, subst}
use Rattle.std.specs.List.{All}
use Rattle.std.proofs.lemmas.List.{take_all}
use Rattle.std.proofs.lemmas.Grind.{common_steps}
use Rattle.stamp_history.specs.HistoryLaws.{PairIsU64}
use Rattle.stamp_history.specs.HistoryText.{pair_data}
use Rattle.stamp_history.proofs.ItemByItem.{next_left, all_and_next}
use Rattle.stamp_history.proofs.ItemsText.{item_written}
use Rattle.stamp_history.proofs.history_writing.push_pairs.Goals as goal

pub loop-index-preserved : goal.loop-index-preserved
loop-index-preserved c =
    let xs = c.args.pairs.now in
    let i = c.loop-index.index in
    let x = get_or xs i (0, 0) in
    record {
      text = item_written pair_data xs i x _ _ _ _ (next_left xs i (0, 0) x c.loop-index-test.true refl)
          c.in_ok-push_comma.ensures c.in_ok-push_pair.ensures.text c.loop-index.invariant.text;
      numbers = all_and_next PairIsU64 xs i (0, 0) x c.loop-index-test.true refl c.loop-index.invariant.numbers
          c.in_ok-push_pair.ensures.numbers;
    }

pub returns-clause-numbers : goal.returns-clause-numbers
returns-clause-numbers c =
    let xs = c.args.pairs.now in
    let end : length xs ≤ c.loop-index.index = grind (arith, common_steps) in
    subst (All PairIsU64) (take_all c.loop-index.index xs end) c.loop-index.invariant.numbers
