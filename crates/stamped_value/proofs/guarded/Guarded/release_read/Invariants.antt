use Rattle.stamp_core.specs.declared.call.Call.TheVariants.{UnlockRead}
use Rattle.stamped_value.proofs.guarded.Guarded.release_read.Given as goal

abbrev pub ghosts-take_reader : goal.ghosts-take_reader
ghosts-take_reader g a = record { limits = a.table.now.key.limits; call = UnlockRead a.stamp }
