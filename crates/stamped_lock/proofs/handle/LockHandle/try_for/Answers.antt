use Rattle.std.proofs.Common.{rules}
use Rattle.stamp_core.specs.declared.reply.Reply.TheVariants.{Stamp}
use Rattle.stamped_lock.specs.Timed.{TriedAtLast}
use Rattle.stamped_lock.proofs.Timing.{tried_first, tried_again, unanswered, of_any_error}
use Rattle.stamped_lock.proofs.handle.LockHandle.try_for.Goals as goal

pub returns-in_err-start-clause-err : goal.returns-in_err-start-clause-err
returns-in_err-start-clause-err g c = of_any_error
    (TriedAtLast c.args.call (Stamp 0) c.args.self.now c.try_call-stamp.new.self) c.from_residual.result
    (unanswered _ c.try_call-stamp.result _ _ (tried_first _ _ _ _ c.try_call-stamp.ensures) (search rules))

pub loop-init : goal.loop-init
loop-init g c = unanswered _ c.try_call-stamp.result _ _ (tried_first _ _ _ _ c.try_call-stamp.ensures) (search rules)

pub returns-then-is_some-2-clause-tried : goal.returns-then-is_some-2-clause-tried
returns-then-is_some-2-clause-tried g c =
    tried_again _ _ _ _ _ c.loop.invariant c.try_call-stamp-in-loop.ensures

pub loop-preserved : goal.loop-preserved
loop-preserved g c = unanswered _ c.try_call-stamp-in-loop.result _ _
    (tried_again _ _ _ _ _ c.loop.invariant c.try_call-stamp-in-loop.ensures) (search rules)
