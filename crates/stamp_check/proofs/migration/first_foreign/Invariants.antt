use Rattle.std.proofs.Common.{take}
use Rattle.stamp_check.specs.Migration.{AllCanRespell}
use Rattle.stamp_check.proofs.migration.first_foreign.Given as goal

abbrev pub invariant-loop-i : goal.invariant-loop-i
invariant-loop-i l = AllCanRespell (take l.i l.entries)
