use Rattle.stamp_core.specs.LockDecision.{reply_as}
use Rattle.stamp_check.proofs.ChangedWords.{changed_goes_on}
use Rattle.stamp_check.proofs.going_on.lock_goes_on.Goals as goal

pub returns-in-Change : goal.returns-in-Change
returns-in-Change c =
    changed_goes_on c.args.limits c.args.bits c.bits.result c.word.result c.in-Change.next c.args.call.now
    (reply_as c.in-Change.answer) c.args.reply.now c.where_answered-in-Change.result c.word.ensures
    c.in-Change.ensures.decides c.bits.ensures.bits c.where_answered-in-Change.ensures
