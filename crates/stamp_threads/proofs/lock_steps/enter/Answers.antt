use Rattle.std.proofs.Common.{arith}
use Rattle.stamp_threads.proofs.PassMoves.{allows_enter}
use Rattle.stamp_threads.proofs.lock_steps.enter.Goals as goal

pub load_new_seat-seat-requires : goal.load_new_seat-seat-requires
load_new_seat-seat-requires g c = (omega arith, rw (c.requires.step) (allows_enter _ _ c.requires.enterable))
