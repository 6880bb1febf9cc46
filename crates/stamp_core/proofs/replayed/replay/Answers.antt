use Rattle.std.proofs.Common.{◌≡◌, subst, sym, arith, length}
use Rattle.std.proofs.lemmas.List.{take_all}
use Rattle.std.specs.Prelude.{IsTrue}
use Rattle.stamp_core.specs.Call.{is_lock_call}
use Rattle.stamp_core.specs.declared.call.Call.{Call}
use Rattle.stamp_core.proofs.Replaying.{none, more, waits, all}
use Rattle.stamp_core.proofs.replayed.replay.Goals as goal

pub loop-i-init : goal.loop-i-init
loop-i-init c = rw c.new-replies.ensures.items
    (none _ _ _ (c.opening_in-word.ensures.represented c.args.limits (sym c.layout.ensures.layout)))

pub returns-in_default-clause-replays : goal.returns-in_default-clause-replays
returns-in_default-clause-replays c =
    waits _ _ _ _ _ _ c.loop-i.invariant c.loop-i-test.true c.index-calls-i.is c.in_default.ensures

pub loop-i-preserved : goal.loop-i-preserved
loop-i-preserved c =
    let call = c.index-calls-i.result in
    let lock : IsTrue (is_lock_call call) = subst (λ (k : Call). IsTrue (is_lock_call k)) (sym c.index-calls-i.is)
    (c.requires c.loop-i.i call c.loop-i-test.true) in
    rw c.in_ok-push.ensures.items
    (more _ _ _ _ _ _ _ _ c.loop-i.invariant c.loop-i-test.true c.index-calls-i.is lock c.in-Some.ensures)

pub returns-clause-replays : goal.returns-clause-replays
returns-clause-replays c =
    let end : c.loop-i.i ≡ length c.args.calls.now = omega (arith, c.loop-i-test.false, c.loop-i.auto.i-end) in
    all _ _ _ _ _ c.loop-i.invariant (take_all _ _ c.loop-i-test.false) end
