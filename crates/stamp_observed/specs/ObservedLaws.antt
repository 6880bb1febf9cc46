-- The laws of the faults of observed histories, over the definitions alone.
use Rattle.std.specs.Prelude.{ℕ, ◌≡◌, Option}
use Rattle.stamp_explain.specs.Observed.{ObservedHistory, IsObserved}
use Rattle.stamp_observed.specs.declared.judging.ObservedWhy.{ObservedWhy}
use Rattle.stamp_observed.specs.declared.judging.ObservedFault.{ObservedFault}
use Rattle.stamp_observed.specs.ObservedFault.{IsFirstFault, IsObservedJudgement}

-- What has a fault can't have been observed.
abbrev pub ObservedFaultsAreExact : Type 0
ObservedFaultsAreExact = (h : ObservedHistory) (i : ℕ) (why : ObservedWhy) → IsFirstFault h i why → ¬ IsObserved h

-- Of each observed history there is one judgement at most.
abbrev pub OneObservedVerdict : Type 0
OneObservedVerdict = (h : ObservedHistory) (a b : Option ObservedFault) → IsObservedJudgement h a →
    IsObservedJudgement h b → a ≡ b
