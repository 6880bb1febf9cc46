use Rattle.std.proofs.Common.{rules, arith}
use Rattle.stamp_threads.proofs.RuleKept.{allows_load}
use Rattle.stamp_threads.proofs.lock_steps.load.Goals as goal

pub load-requires : goal.load-requires
load-requires g c = (
  search rules,
  omega arith,
  rw (c.requires.step.0, c.requires.step.1)
      (allows_load _ _ _ _ _ c.requires.lock_call c.requires.seat.2),
)
