use Rattle.std.proofs.Common.{rules, arith}
use Rattle.stamp_threads.proofs.GetSteps.{allows_deny}
use Rattle.stamp_threads.proofs.record_steps.deny.Goals as goal

pub load-requires : goal.load-requires
load-requires g c = (
  search rules,
  omega arith,
  rw (c.requires.step.0, c.requires.step.1, c.requires.step.2, c.requires.step.3)
      (allows_deny _ _ _ _ _ c.requires.loading.0 _ _ _ c.requires.seat.2 c.requires.loading.1
      c.requires.loading.2 c.requires.other),
)
