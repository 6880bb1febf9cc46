use Rattle.stamp_threads.proofs.PassMoves.{splits_consistent}
use Rattle.stamp_threads.proofs.running_lock.RunningLock.split_off.Goals as goal

pub returns-clause-all_consistent : goal.returns-clause-all_consistent
returns-clause-all_consistent c = rw (
  c.split-seat.ensures.given.1,
  c.split-seat.ensures.new.1,
  ← c.pass.view_is,
) (splits_consistent _ _)
