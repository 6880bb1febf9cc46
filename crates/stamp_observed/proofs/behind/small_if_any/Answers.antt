use Rattle.std.proofs.Common.{◌≡◌, ◌≤◌, ◌+◌, IfSome, arith, length, rules}
use Rattle.stamp_core.specs.LockEvent.{write_count}
use Rattle.stamp_observed.specs.declared.behind.StuckHistory.{StuckHistory}
use Rattle.stamp_observed.specs.inner.Behind.{IsFaultWith, IsStuckBehind}
use Rattle.stamp_observed.proofs.StuckBehind.{behind_told, few_more, stuck_with, stuck_with_few}
use Rattle.stamp_observed.proofs.behind.small_if_any.Goals as goal

pub small_of-requires-clause-observed : goal.small_of-requires-clause-observed
small_of-requires-clause-observed c =
    let with : IsFaultWith c.args.ended.now c.in-Some-fault_with.fault = search rules in
    let some : IfSome c.in_ok-stuck.field-0 (λ (s : StuckHistory).
    IsStuckBehind c.in-Some.none.limits c.in-Some.none.width c.args.ended.now s) =
    c.in_ok-stuck.ensures c.args.ended.now with in
    let told : IsStuckBehind c.in-Some.none.limits c.in-Some.none.width c.args.ended.now c.in-Some-2.stuck =
    search rules in
    let is : IsStuckBehind c.args.limits c.args.width c.args.ended.now c.in-Some-2.stuck =
    behind_told c.in-Some.none c.args.limits c.args.width c.new.result.items c.args.ended.now c.in-Some-2.stuck
    c.in-Some.ensures.same told in is.observed

pub small_of-requires-clause-stuck : goal.small_of-requires-clause-stuck
small_of-requires-clause-stuck c =
    let with : IsFaultWith c.args.ended.now c.in-Some-fault_with.fault = search rules in
    let some : IfSome c.in_ok-stuck.field-0 (λ (s : StuckHistory).
    IsStuckBehind c.in-Some.none.limits c.in-Some.none.width c.args.ended.now s) =
    c.in_ok-stuck.ensures c.args.ended.now with in
    let told : IsStuckBehind c.in-Some.none.limits c.in-Some.none.width c.args.ended.now c.in-Some-2.stuck =
    search rules in
    let is : IsStuckBehind c.args.limits c.args.width c.args.ended.now c.in-Some-2.stuck =
    behind_told c.in-Some.none c.args.limits c.args.width c.new.result.items c.args.ended.now c.in-Some-2.stuck
    c.in-Some.ensures.same told in is.stuck

pub returns-clause-stuck : goal.returns-clause-stuck
returns-clause-stuck c =
    let with : IsFaultWith c.args.ended.now c.in-Some-fault_with.fault = search rules in
    let some : IfSome c.in_ok-stuck.field-0 (λ (s : StuckHistory).
    IsStuckBehind c.in-Some.none.limits c.in-Some.none.width c.args.ended.now s) =
    c.in_ok-stuck.ensures c.args.ended.now with in
    let told : IsStuckBehind c.in-Some.none.limits c.in-Some.none.width c.args.ended.now c.in-Some-2.stuck =
    search rules in
    let is : IsStuckBehind c.args.limits c.args.width c.args.ended.now c.in-Some-2.stuck =
    behind_told c.in-Some.none c.args.limits c.args.width c.new.result.items c.args.ended.now c.in-Some-2.stuck
    c.in-Some.ensures.same told in
    stuck_with c.args.limits c.args.width c.args.ended.now c.args.most c.in-Some-2.stuck c.in_ok-small_of.field-0 is
    c.in_ok-small_of.ensures

pub returns-clause-few : goal.returns-clause-few
returns-clause-few c limits events range represents =
    let with : IsFaultWith c.args.ended.now c.in-Some-fault_with.fault = search rules in
    let some : IfSome c.in_ok-stuck.field-0 (λ (s : StuckHistory).
    IsStuckBehind c.in-Some.none.limits c.in-Some.none.width c.args.ended.now s) =
    c.in_ok-stuck.ensures c.args.ended.now with in
    let told : IsStuckBehind c.in-Some.none.limits c.in-Some.none.width c.args.ended.now c.in-Some-2.stuck =
    search rules in
    let is : IsStuckBehind c.args.limits c.args.width c.args.ended.now c.in-Some-2.stuck =
    behind_told c.in-Some.none c.args.limits c.args.width c.new.result.items c.args.ended.now c.in-Some-2.stuck
    c.in-Some.ensures.same told in
    let writes : c.writes.result ≡ write_count events = c.writes.ensures limits events range represents in
    let within : c.saturating_add.result ≤ write_count events + length c.args.others.now + 1 =
    omega (arith, writes, c.saturating_add-versions.ensures, c.saturating_add.ensures) in
    few_more within (stuck_with_few c.args.limits c.args.width c.args.ended.now c.args.most c.in-Some-2.stuck
    c.in_ok-small_of.field-0 c.saturating_add.result is c.in_ok-small_of.ensures
    (c.leaves_out_few.ensures c.if-not-leaves_out_few.false))
