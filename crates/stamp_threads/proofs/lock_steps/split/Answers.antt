use Rattle.std.proofs.Common.{rules, arith}
use Rattle.stamp_threads.proofs.PassMoves.{splits_give}
use Rattle.stamp_threads.proofs.lock_steps.split.Goals as goal

pub split_seat-requires : goal.split_seat-requires
split_seat-requires c = (search rules, omega arith, splits_give _ _ _ _ c.requires.seat.2)
