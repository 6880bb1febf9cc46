use Rattle.std.proofs.Common.{ℕ, ◌≡◌, ◌+◌, ◌∷◌, [], List, length, arith, subst, sym, length-append}
use Rattle.stamp_observed.specs.declared.behind.SearchEnd.{SearchEnd}
use Rattle.stamp_observed.specs.declared.behind.Sought.{Sought}
use Rattle.stamped_watch.specs.Witness.{AreSoughtOn, IsSoughtFrom}
use Rattle.stamped_watch.specs.inner.Witness.{IsSearchedFrom}
use Rattle.stamped_watch.proofs.Witnessing.{sought_more}
use Rattle.stamped_watch.proofs.witness.any_witness.Goals as goal

pub loop-start-preserved : goal.loop-start-preserved
loop-start-preserved c =
    let run = c.args.run.now in
    let judge = c.args.judge.now in
    let ended = c.args.ended.now in
    let number = c.args.number in
    let sought = c.in-NotFound.sought in
    let many : length (c.loop-start.in_vain.items) ≡ c.loop-start.start = c.loop-start.invariant.count in
    let items = c.in_ok-push-in-NotFound.ensures.items in
    let longer = length-append c.loop-start.in_vain.items (sought ∷ []) in
    let is : IsSoughtFrom run judge number ended c.args.most c.loop-start.start sought =
    subst (λ (e : SearchEnd). IsSearchedFrom run judge number ended c.args.most c.loop-start.start e) c.in-NotFound.is
    c.in_ok-small.ensures in
    let here : c.loop-start.start ≡ 0 + length (c.loop-start.in_vain.items) = omega (arith, many) in
    record {
      each = subst (λ (xs : List Sought). AreSoughtOn run judge number ended c.args.most 0 xs) (sym items)
          (sought_more run judge number ended c.args.most 0 c.loop-start.in_vain.items sought c.loop-start.invariant.each
          (subst (λ (n : ℕ). IsSoughtFrom run judge number ended c.args.most n sought) here is));
      count = subst (λ (xs : List Sought). length xs ≡ c.loop-start.start + 1) (sym items)
          (omega (arith, many, longer));
    }
