use Rattle.stamp_observed.specs.Small.{IsStuckAs}
use Rattle.stamp_observed.proofs.leaving.without_more.Given as goal

abbrev pub invariant-loop : goal.invariant-loop
invariant-loop l = IsStuckAs l.observed l.most l.fault.entry l.found.small
