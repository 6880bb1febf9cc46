use Rattle.std.proofs.Common.{◌∙◌, sym}
use Rattle.stamp_explain.proofs.TakingCalls.{lock_takes, record_takes}
use Rattle.stamp_explain.proofs.replaying.State.take.Goals as goal

pub returns-in_ok-word : goal.returns-in_ok-word
returns-in_ok-word c = lock_takes c.args.limits c.args.call.now c.args.self.now c.in_ok-word.word c.in_ok-word.reply
    (sym c.is_lock_call.ensures ∙ c.if-is_lock_call.true) c.in_ok-word.ensures

pub returns-in_ok-content : goal.returns-in_ok-content
returns-in_ok-content c = record_takes c.args.limits c.args.call.now c.args.self.now c.in_ok-content.content
    c.in_ok-content.reply (sym c.is_lock_call.ensures ∙ c.if-is_lock_call.false) c.in_ok-content.ensures
