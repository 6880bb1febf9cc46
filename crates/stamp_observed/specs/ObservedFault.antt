-- The first call of an observed history that an observer can't have seen, and why.
use Rattle.std.specs.Prelude.{ℕ, ◌≡◌, List, take, slice_get, Option, None, Some}
use Rattle.std.specs.List.{All, AllPairs}
use Rattle.stamp_explain.specs.declared.observed.Observation.{Observation}
use Rattle.stamp_explain.specs.Observed.{ObservedHistory, IsInterval, DoNotOverlap, IsObserved}
use Rattle.stamp_observed.specs.declared.judging.ObservedWhy.{ObservedWhy}
use Rattle.stamp_observed.specs.declared.judging.ObservedWhy.TheVariants.{Interval, Overlap}
use Rattle.stamp_observed.specs.declared.judging.ObservedFault.{ObservedFault}

-- no call is over before it began, and none overlaps another one of its thread
pub record AreSeen (entries : List Observation) : Type 0 where
  pub intervals : All IsInterval entries
  pub none_overlap : AllPairs DoNotOverlap entries

-- the first thing that a call breaks beside those listed before it: it is over before it began; or it overlaps
-- one of them that is of its thread
abbrev pub Breaks : List Observation → Observation → ObservedWhy → Type 0
Breaks before e Interval = ¬ IsInterval e
Breaks before e Overlap = IsInterval e × ¬ All (λ (other : Observation). DoNotOverlap other e) before

-- the calls listed before call i can be seen, and beside them it breaks this first
pub record IsFirstFault (h : ObservedHistory) (i : ℕ) (why : ObservedWhy) : Type 0 where
  pub entry : Observation
  pub is_entry : slice_get h.entries i ≡ Some entry
  pub before : AreSeen (take i h.entries)
  pub breaks : Breaks (take i h.entries) entry why

-- it may be observed; or its first fault
abbrev pub IsObservedJudgement : ObservedHistory → Option ObservedFault → Type 0
IsObservedJudgement h None = IsObserved h
IsObservedJudgement h (Some fault) = IsFirstFault h fault.entry fault.why
