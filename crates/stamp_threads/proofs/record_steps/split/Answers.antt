use Rattle.std.proofs.Common.{rules, arith}
use Rattle.stamp_threads.proofs.RecordMoves.{splits_give}
use Rattle.stamp_threads.proofs.record_steps.split.Goals as goal

pub split_seat-requires : goal.split_seat-requires
split_seat-requires g c =
    (search rules, omega arith, splits_give _ _ _ _ _ c.requires.seat.2 c.requires.idle)
