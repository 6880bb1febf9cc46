use Rattle.std.proofs.Common.{rules, arith}
use Rattle.stamp_threads.proofs.PutSteps.{allows_load_for_put}
use Rattle.stamp_threads.proofs.record_steps.load_for_put.Goals as goal

pub load-requires : goal.load-requires
load-requires g c = (
  search rules,
  omega arith,
  rw (c.requires.step) (allows_load_for_put _ _ _ _ _ c.requires.seat.2 c.requires.idle),
)
