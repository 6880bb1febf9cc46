-- When an observed history is stuck at a given call.
use Rattle.std.specs.Prelude.{ℕ, ◌≡◌, ◌≤◌, List, Some}
use Rattle.stamp_core.specs.Limits.{Bounds, units}
use Rattle.stamp_explain.specs.declared.observed.Observation.{Observation}
use Rattle.stamp_explain.specs.declared.observed.Returned.{Returned}
use Rattle.stamp_explain.specs.Cut.{IsStuck}
use Rattle.stamp_explain.specs.Observed.{ObservedHistory, IsObserved, IsReturnAt}
use Rattle.stamp_observed.specs.declared.behind.SearchEnd.{SearchEnd}
use Rattle.stamp_observed.specs.declared.behind.SearchEnd.TheVariants.{Small, NotFound}
use Rattle.stamp_observed.specs.declared.behind.Sought.{Sought}
use Rattle.stamp_observed.specs.declared.opening.State.{State}
use Rattle.stamp_observed.specs.Small.{IsCutThere, IsRenumbered}

-- a history of a lock under these limits, and of a record of this width, is stuck at the return of a call that is this
-- one with stamps renumbered, and nothing in it is later
pub record IsStuckWith (limits : Bounds) (width : ℕ) (e : Observation) (small : ObservedHistory) : Type 0 where
  pub observed : IsObserved small
  pub limits_are : small.limits ≡ limits
  pub width_is : small.width ≡ width
  pub return : Returned
  pub returned : e.returned ≡ Some return
  pub place : ℕ
  pub there : IsReturnAt small.entries place
  pub stuck : IsStuck small place
  pub whole : IsCutThere small place there.return
  pub versions : ℕ
  pub renumbered : IsRenumbered (units limits) versions e return there.entry there.return

-- it is stuck so, and no more versions than this are left out
pub record IsStuckWithFew (limits : Bounds) (width most : ℕ) (e : Observation) (small : ObservedHistory) : Type 0
  where
    pub stuck : IsStuckWith limits width e small
    pub few : stuck.versions ≤ most

-- a history was sought that is stuck at this call, behind this state of a lock and a record of this width, of these
-- other calls, where no more than so many positions are kept
pub record IsSought (limits : Bounds) (width : ℕ) (state : State) (others : List Observation) (e : Observation)
    (most : ℕ) (sought : Sought) : Type 0 where
  pub limits_are : sought.limits ≡ limits
  pub width_is : sought.width ≡ width
  pub state_is : sought.state ≡ state
  pub others_are : sought.others.value.items ≡ others
  pub ended_is : sought.ended ≡ e
  pub most_is : sought.most ≡ most

-- one was found; or none was, which was sought so
abbrev pub IsFoundBehind : Bounds → ℕ → State → List Observation → Observation → ℕ → SearchEnd →
    Type 0
IsFoundBehind limits width state others e most (Small small) = IsStuckWith limits width e small
IsFoundBehind limits width state others e most (NotFound sought) = IsSought limits width state others e most sought

abbrev pub IfSmall : SearchEnd → (ObservedHistory → Type 0) → Type 0
IfSmall (Small small) P = P small
IfSmall (NotFound sought) P = Unit {0}
