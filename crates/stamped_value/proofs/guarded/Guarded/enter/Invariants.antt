use Rattle.std.proofs.Common.{Some}
use Rattle.stamped_value.proofs.guarded.Guarded.enter.Given as goal

abbrev pub ghosts-enter : goal.ghosts-enter
ghosts-enter g a = record { limits = a.table.now.key.limits; first = Some a.table.now.key.first.value }
