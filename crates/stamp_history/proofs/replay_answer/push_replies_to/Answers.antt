use Rattle.std.proofs.Common.{◌≡◌, length, arith}
use Rattle.std.proofs.lemmas.Grind.{common_steps}
use Rattle.stamp_history.proofs.LockCalls.{call_at_index}
use Rattle.stamp_history.proofs.RepliesSoFar.{goes_on, ends}
use Rattle.stamp_history.proofs.replay_answer.push_replies_to.Goals as goal

pub loop-index-preserved : goal.loop-index-preserved
loop-index-preserved c =
    let there = call_at_index c.args.calls.now c.loop-index.index _ c.as_call.result c.loop-index-test.true
    c.as_call.ensures.call in
    goes_on c.args.limits c.args.calls.now c.loop-index.index c.as_call.result c.loop-index.word _ _ _ _ _ _ there
    c.as_call.ensures.lock_call c.in_ok-push_comma.ensures c.in_ok-push_reply.ensures.text c.loop-index.invariant
    c.in-Some.ensures

pub returns : goal.returns
returns c =
    let end : c.loop-index.index ≡ length c.args.calls.now = grind (arith, common_steps) in
    ends c.args.limits c.args.calls.now c.loop-index.index c.loop-index.word _ _ _ end c.in_ok-push_text-2.ensures
    c.loop-index.invariant
