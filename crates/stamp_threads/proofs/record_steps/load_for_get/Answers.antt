use Rattle.std.proofs.Common.{rules, arith}
use Rattle.stamp_threads.proofs.GetSteps.{allows_load_for_get}
use Rattle.stamp_threads.proofs.record_steps.load_for_get.Goals as goal

pub load-requires : goal.load-requires
load-requires g c = (
  search rules,
  omega arith,
  rw (c.requires.step) (allows_load_for_get _ _ _ _ _ c.requires.seat.2 c.requires.idle),
)
