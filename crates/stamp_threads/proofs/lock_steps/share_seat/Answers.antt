use Rattle.std.proofs.Common.{rules, arith}
use Rattle.stamp_threads.proofs.PassMoves.{joins_share}
use Rattle.stamp_threads.proofs.lock_steps.share_seat.Goals as goal

pub join_seat-requires : goal.join_seat-requires
join_seat-requires c = (
  search rules,
  search rules,
  search rules,
  omega arith,
  joins_share _ _ _ _ _ _ c.requires.seat.2 c.requires.other.2,
)
