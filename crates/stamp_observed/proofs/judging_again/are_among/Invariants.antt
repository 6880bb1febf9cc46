use Rattle.std.specs.Prelude.{take}
use Rattle.std.specs.List.{All, Contains}
use Rattle.stamp_observed.proofs.judging_again.are_among.Given as goal

abbrev pub invariant-loop-other : goal.invariant-loop-other
invariant-loop-other l = All (Contains l.replies) (take l.other-index l.others)
