use Rattle.std.proofs.Common.{ap}
use Rattle.stamp_core.specs.LockCall.{call_as}
use Rattle.stamp_core.specs.LockDecision.{reply_as}
use Rattle.stamp_core.specs.Word.{word_at}
use Rattle.stamp_core.specs.declared.decision.Decision.TheVariants.{Answer, Change}
use Rattle.stamp_sets.specs.declared.small_call.SmallReply.TheVariants.{OfLock}
use Rattle.stamp_sets.specs.Judged.{lock}
use Rattle.stamp_sets.specs.SmallCall.{call_of}
use Rattle.stamp_sets.proofs.Answers.{returned, taken}
use Rattle.stamp_sets.proofs.LockEffects.{answered, changed, decides_at}
use Rattle.stamp_sets.proofs.object.lock_after.Goals as goal

pub returns-then-is_return : goal.returns-then-is_return
returns-then-is_return c = returned (lock c.args.limits) c.args.state c.args.state c.args.begun.now
    (call_as c.in-OfLock.call) (OfLock c.in-Answer.reply) (ap call_of c.in-OfLock.is)
    (answered c.args.limits c.args.state (call_as c.in-OfLock.call) c.in-Answer.reply
    (decides_at c.args.limits c.word.result (word_at c.args.limits c.args.state) c.as_call.result
    (call_as c.in-OfLock.call) (Answer (reply_as c.in-Answer.reply)) c.word.ensures c.as_call.ensures.call
    c.in-Answer.ensures.decides)) (c.is_return.ensures.0 c.if-is_return.true)

pub returns-then-may_get : goal.returns-then-may_get
returns-then-may_get c = taken (lock c.args.limits) c.args.state c.bits.result c.args.begun.now
    (call_as c.in-OfLock.call) (OfLock c.in-Change.reply) (ap call_of c.in-OfLock.is)
    (changed c.args.limits c.args.state (call_as c.in-OfLock.call) c.in-Change.next c.in-Change.reply c.bits.result
    (decides_at c.args.limits c.word.result (word_at c.args.limits c.args.state) c.as_call.result
    (call_as c.in-OfLock.call) (Change c.in-Change.next (reply_as c.in-Change.reply)) c.word.ensures
    c.as_call.ensures.call c.in-Change.ensures.decides) c.bits.ensures.bits) (c.may_get.ensures.0 c.if-may_get.true)
