use Rattle.stamped_value.proofs.guarded.Guarded.ask_is_last.Given as goal

abbrev pub ghosts-load : goal.ghosts-load
ghosts-load g a = record { limits = a.table.now.key.limits; call = a.call.now }
