use Rattle.std.proofs.Common.{refl}
use Rattle.stamp_machines.specs.LockPhase.{Going, Done}
use Rattle.stamp_machines.proofs.machine.after_on_lock.Goals as goal

pub returns-in_err-seen-clause-leads : goal.returns-in_err-seen-clause-leads
returns-in_err-seen-clause-leads c = rw c.from_residual.ensures
    (rw (c.branch-seen.ensures, c.in_err-seen.is) at (c.decide_on-next.ensures.leads 0))

pub returns-clause-leads : goal.returns-clause-leads
returns-clause-leads c =
    rw (c.branch-seen.ensures, c.in_ok-seen.is) at (c.decide_on-next.ensures.leads 0)

pub returns-in_err-seen-clause-phase : goal.returns-in_err-seen-clause-phase
returns-in_err-seen-clause-phase c = rw c.from_residual.ensures (
  Done c.decide_on-next.new.reply,
  rw (c.branch-seen.ensures, c.in_err-seen.is) at (c.decide_on-next.ensures.leads 0),
  refl,
)

pub returns-clause-phase : goal.returns-clause-phase
returns-clause-phase c = (
  Going c.in_ok-seen.seen,
  rw (c.branch-seen.ensures, c.in_ok-seen.is) at (c.decide_on-next.ensures.leads 0),
  refl,
)
