use Rattle.stamp_core.specs.LockDecision.{reply_as}
use Rattle.stamp_machines.proofs.LockCallSteps.{plans-exchange}
use Rattle.stamp_machines.proofs.lock_phase.lock_access.Goals as goal

pub returns-in-Change-clause-plans : goal.returns-in-Change-clause-plans
returns-in-Change-clause-plans c =
    rw c.bits.ensures.bits
    (plans-exchange
    (record {
      at = c.args.at;
      limits = c.args.limits;
      call = c.args.call.now;
      seen = c.args.seen;
    }) c.in-Some.old c.in-Change.new (reply_as c.in-Change.field-1) c.in-Some.is
    (rw c.word.ensures at c.in-Change.ensures.decides))
