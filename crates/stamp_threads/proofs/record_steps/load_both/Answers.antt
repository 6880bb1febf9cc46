use Rattle.std.proofs.Common.{rules, arith}
use Rattle.stamp_threads.proofs.RecordMoves.{allows_meet}
use Rattle.stamp_threads.proofs.record_steps.load_both.Goals as goal

pub load-requires : goal.load-requires
load-requires g c = (
  search rules,
  omega arith,
  rw (c.requires.step)
      (allows_meet _ _ _ _ _ _ c.requires.seat.2 c.requires.idle.0 c.requires.idle.1),
)
