use Rattle.std.proofs.Common.{◌-◌}
use Rattle.stamp_observed.proofs.Seen.{IsBetween}
use Rattle.stamp_observed.proofs.judging.first_overlap.Given as goal

abbrev pub invariant-loop-too_many : goal.invariant-loop-too_many
invariant-loop-too_many l = IsBetween l.entries l.without l.too_many

abbrev pub decreases-loop-too_many : goal.decreases-loop-too_many
decreases-loop-too_many l = l.too_many - l.without
