use Rattle.std.proofs.Common.{rules, arith}
use Rattle.stamp_threads.proofs.PassMoves.{splits_part}
use Rattle.stamp_threads.proofs.lock_steps.part_seats.Goals as goal

pub split_seat-requires : goal.split_seat-requires
split_seat-requires c = (search rules, omega arith, splits_part _ _ _ _ c.requires.seat.2)
