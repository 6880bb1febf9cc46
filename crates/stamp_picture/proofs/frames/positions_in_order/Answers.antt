use Rattle.std.proofs.lemmas.List.Filters.{dedup_is}
use Rattle.std.proofs.lemmas.List.Kept.{Contains-dedup_nat, Contains-from_dedup}
use Rattle.std.proofs.lemmas.List.Sorted.{Contains-permutation, IsPermutation-sym}
use Rattle.std.proofs.lemmas.Map.Keys.{IsStrictlyIncreasing-dedup}
use Rattle.stamp_picture.proofs.frames.positions_in_order.Goals as goal

pub returns-clause-is : goal.returns-clause-is
returns-clause-is c =
    let is = dedup_is _ _ _ c.dedup.ensures.filtered in
    let moved = rw c.in_ok-positions.ensures.is at c.sort_unstable.ensures.permutation in
    record {
      rising = rw is (IsStrictlyIncreasing-dedup _ c.sort_unstable.ensures.sorted);
      all = λ t h. rw is (Contains-dedup_nat _ t (Contains-permutation _ _ t moved h));
      no_more = λ t h. Contains-permutation _ _ t (IsPermutation-sym _ _ moved)
          (Contains-from_dedup _ _ t (rw is at h));
    }
