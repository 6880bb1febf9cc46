use Rattle.std.proofs.Common.{refl}
use Rattle.stamp_machines.specs.LockPhase.{Going, Done}
use Rattle.stamp_machines.proofs.machine.after_locking.Goals as goal

pub returns-in-Continue-clause-phase : goal.returns-in-Continue-clause-phase
returns-in-Continue-clause-phase c = (
  Going c.in-Continue.seen,
  rw (c.record_limits-limits.ensures, c.call_for.ensures.call c.args.loaded.now, c.in-Continue.is) at
      (c.decide_on-next.ensures.leads 1),
  refl,
)

pub returns-in-Break-clause-phase : goal.returns-in-Break-clause-phase
returns-in-Break-clause-phase c = (
  Done c.decide_on-next.new.reply,
  rw (c.record_limits-limits.ensures, c.call_for.ensures.call c.args.loaded.now, c.in-Break.is) at
      (c.decide_on-next.ensures.leads 1),
  c.after_own_call.ensures.after,
)
