use Rattle.stamp_core.specs.declared.call.Call.TheVariants.{IsWriteLocked}
use Rattle.stamp_threads.proofs.running_lock.RunningLock.meet.Given as goal

abbrev pub ghosts-load_both : goal.ghosts-load_both
ghosts-load_both a = record { limits = a.table.now.key.limits; call = IsWriteLocked }
