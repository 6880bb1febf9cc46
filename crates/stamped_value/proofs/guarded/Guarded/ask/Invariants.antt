use Rattle.stamped_value.proofs.guarded.Guarded.ask.Given as goal

abbrev pub ghosts-load : goal.ghosts-load
ghosts-load g a = record { limits = a.table.now.key.limits; call = a.call.now }
