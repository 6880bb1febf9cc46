-- A history that was found to be stuck at a call.
use Rattle.std.specs.Prelude.{ℕ, ◌≡◌, ◌≤◌, ◌+◌, Some}
use Rattle.stamp_core.specs.Limits.{Bounds, units}
use Rattle.stamp_explain.specs.declared.observed.Observation.{Observation}
use Rattle.stamp_explain.specs.Cut.{IsStuck}
use Rattle.stamp_explain.specs.Observed.{IsObserved, IsReturnAt}
use Rattle.stamp_observed.specs.declared.behind.StuckHistory.{StuckHistory}
use Rattle.stamp_observed.specs.declared.fault.Fault.{Fault}
use Rattle.stamp_observed.specs.Issued.{writes_by}
use Rattle.stamp_observed.specs.Small.{IsRenumbered}

-- the fault is of this call, which has returned
pub record IsFaultWith (e : Observation) (fault : Fault) : Type 0 where
  pub call_is : fault.call ≡ e
  pub returned : e.returned ≡ Some fault.returned

-- it is stuck at its place, at the return of this call with stamps renumbered
pub record IsStuckBehind (limits : Bounds) (width : ℕ) (e : Observation) (found : StuckHistory) : Type 0 where
  pub fault : Fault
  pub with : IsFaultWith e fault
  pub observed : IsObserved found.history
  pub limits_are : found.history.limits ≡ limits
  pub width_is : found.history.width ≡ width
  pub there : IsReturnAt found.history.entries found.place
  pub stuck : IsStuck found.history found.place
  pub last_is : there.return.last ≡ found.last
  pub renumbered : IsRenumbered (units limits) found.versions e fault.returned there.entry there.return

-- what is left out of it, and what can be left out once more, are no more versions than this
abbrev pub LeavesOutFew : ℕ → StuckHistory → Type 0
LeavesOutFew most found = found.versions + writes_by found.last found.history.entries ≤ most
