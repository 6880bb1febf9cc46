use Rattle.std.proofs.Common.{◌≡◌, ◌+◌, IfSome, List, length, rules, subst}
use Rattle.stamp_core.specs.LockEvent.{LockEvent, write_count}
use Rattle.stamp_core.specs.Word.{HoldsForEvents}
use Rattle.stamp_explain.specs.declared.observed.Observation.{Observation}
use Rattle.stamp_explain.specs.Observed.{ObservedHistory}
use Rattle.stamp_observed.specs.Behind.{IsStuckWithFew}
use Rattle.stamp_observed.proofs.behind.small_behind.Goals as goal

pub returns-in-Some-clause-few : goal.returns-in-Some-clause-few
returns-in-Some-clause-few c limits events range represents =
    let same : c.as_slice.result.now ≡ c.args.others.items = search rules in
    let some : IfSome c.in_ok-small.field-0 (λ (small : ObservedHistory). HoldsForEvents c.args.state.now.word
    (λ (events : List LockEvent). IsStuckWithFew c.args.limits c.args.width
    (write_count events + length c.as_slice.result.now + 1) c.args.ended.now small)) =
    c.in_ok-small.ensures.few in
    let few : HoldsForEvents c.args.state.now.word (λ (events : List LockEvent). IsStuckWithFew c.args.limits c.args.width
    (write_count events + length c.as_slice.result.now + 1) c.args.ended.now c.in-Some.small) = search rules in
    subst (λ (xs : List Observation). IsStuckWithFew c.args.limits c.args.width
    (write_count events + length xs + 1) c.args.ended.now c.in-Some.small) same (few limits events range represents)
