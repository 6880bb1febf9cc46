use Rattle.std.proofs.Common.{rules, arith}
use Rattle.stamp_threads.proofs.RuleKept.{allows_meet}
use Rattle.stamp_threads.proofs.lock_steps.load_both.Goals as goal

pub load-requires : goal.load-requires
load-requires g c = (
  search rules,
  omega arith,
  rw (c.requires.step) (allows_meet _ _ _ _ c.requires.seat.2),
)
