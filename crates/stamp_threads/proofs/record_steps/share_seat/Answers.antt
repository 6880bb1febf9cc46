use Rattle.std.proofs.Common.{rules, arith}
use Rattle.stamp_threads.proofs.RecordMoves.{joins_share}
use Rattle.stamp_threads.proofs.record_steps.share_seat.Goals as goal

pub join_seat-requires : goal.join_seat-requires
join_seat-requires g c = (
  search rules,
  search rules,
  search rules,
  omega arith,
  joins_share _ _ _ _ _ _ _ c.requires.seat.2 c.requires.other.2 c.requires.idle.0
      c.requires.idle.1,
)
