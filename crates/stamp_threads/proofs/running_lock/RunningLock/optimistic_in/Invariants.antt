use Rattle.stamp_core.specs.declared.call.Call.TheVariants.{Optimistic}
use Rattle.stamp_threads.proofs.running_lock.RunningLock.optimistic_in.Given as goal

abbrev pub ghosts-load : goal.ghosts-load
ghosts-load g a = record { limits = a.table.now.key.limits; call = Optimistic }
