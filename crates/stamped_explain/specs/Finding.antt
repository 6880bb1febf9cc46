-- What is found of an observed history.
use Rattle.std.specs.Prelude.{ℕ}
use Rattle.stamp_core.specs.Linearized.{IsLinearized}
use Rattle.stamp_explain.specs.Cut.{IsStuck}
use Rattle.stamp_explain.specs.Observed.{ObservedHistory, IsObserved}
use Rattle.stamp_explain.specs.Points.{HasPoints}
use Rattle.stamp_observed.specs.ObservedFault.{IsFirstFault}
use Rattle.stamp_watch.specs.History.{IsStuckBetween, IsUndecided}
use Rattle.stamped_explain.specs.declared.finding.Finding.{Finding}
use Rattle.stamped_explain.specs.declared.finding.Finding.TheVariants.{Faulty, Explained, Stuck, StuckWithin}
use Rattle.stamped_explain.specs.declared.finding.Finding.TheVariants.{Undecided}

-- its first fault. Or it may be observed, and: this recorded history is of it and linearized by its points; or it
-- is stuck at the return of this entry, or between the returns of these; or undecided at that of this entry
abbrev pub IsFinding : ObservedHistory → ℕ → Finding → Type 0
IsFinding h most (Faulty fault) = IsFirstFault h fault.entry fault.why
IsFinding h most (Explained made) = IsObserved h × HasPoints h made
IsFinding h most (Stuck i) = IsObserved h × IsStuck h i
IsFinding h most (StuckWithin i j) = IsObserved h × IsStuckBetween h most i j
IsFinding h most (Undecided i) = IsObserved h × IsUndecided h most i

-- the recorded history that was found, if one was, is linearized by its points
abbrev pub IsLinearizedIfMade : Finding → Type 0
IsLinearizedIfMade (Explained made) = IsLinearized made
IsLinearizedIfMade found = Unit {0}
