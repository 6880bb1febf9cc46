use Rattle.stamp_core.specs.declared.call.Call.TheVariants.{IsWriteLocked}
use Rattle.stamp_threads.proofs.running_lock.RunningLock.enter.Given as goal

abbrev pub ghosts-enter : goal.ghosts-enter
ghosts-enter a = record { limits = a.table.now.key.limits; call = IsWriteLocked }
