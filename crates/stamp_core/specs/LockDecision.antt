-- Decisions on the lock's word as those of any call.
use Rattle.stamp_core.specs.declared.reply.Reply.{Reply}
use Rattle.stamp_core.specs.declared.reply.Reply.TheVariants as any
use Rattle.stamp_core.specs.declared.lock_decision.LockReply.{LockReply}
use Rattle.stamp_core.specs.declared.lock_decision.LockReply.TheVariants.{Stamp, Yes, No, Done, Mismatch, Count}
use Rattle.stamp_core.specs.declared.lock_decision.LockDecision.{LockDecision}
use Rattle.stamp_core.specs.declared.lock_decision.LockDecision.TheVariants as lock
use Rattle.stamp_core.specs.declared.decision.Decision.{Decision}
use Rattle.stamp_core.specs.declared.decision.Decision.TheVariants.{Answer, Change, Wait}

-- a reply of the lock as a reply of lock or record
abbrev pub reply_as : LockReply → Reply
reply_as (Stamp s) = any.Stamp s
reply_as Yes = any.Yes
reply_as No = any.No
reply_as Done = any.Done
reply_as Mismatch = any.Mismatch
reply_as (Count n) = any.Count n

abbrev pub decision_as : LockDecision → Decision
decision_as (lock.Answer reply) = Answer (reply_as reply)
decision_as (lock.Change new reply) = Change new (reply_as reply)
decision_as lock.Wait = Wait
