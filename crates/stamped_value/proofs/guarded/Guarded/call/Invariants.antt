use Rattle.stamped_value.proofs.guarded.Guarded.call.Given as goal

abbrev pub ghosts-load : goal.ghosts-load
ghosts-load g a = record { limits = a.table.now.key.limits; call = a.call.now }

abbrev pub ghosts-exchange : goal.ghosts-exchange
ghosts-exchange g a = record { limits = a.table.now.key.limits; call = a.call.now }
