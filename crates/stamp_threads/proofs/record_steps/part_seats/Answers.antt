use Rattle.std.proofs.Common.{rules, arith}
use Rattle.stamp_threads.proofs.RecordMoves.{splits_part}
use Rattle.stamp_threads.proofs.record_steps.part_seats.Goals as goal

pub split_seat-requires : goal.split_seat-requires
split_seat-requires g c = (
  search rules,
  omega arith,
  splits_part _ _ _ _ _ c.requires.seat.2 c.requires.idle.0 c.requires.idle.1,
)
