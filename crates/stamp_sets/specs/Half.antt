-- What one object's part of a watch keeps after the events of its own calls.
use Rattle.std.specs.Prelude.{ℕ, ◌≡◌, ◌≢◌, ◌<◌, List, length}
use Rattle.std.specs.List.{All, AllPairs}
use Rattle.stamp_runs.specs.declared.event.Event.{Event}
use Rattle.stamp_sets.specs.declared.half.Half.{Half}
use Rattle.stamp_sets.specs.declared.position.Position.{Position}
use Rattle.stamp_sets.specs.Judged.{judged}
use Rattle.stamp_sets.specs.Kept.{AreKept, IsPossible}
use Rattle.stamp_sets.specs.Told.{HasEachOpen}

-- what it keeps after these events, where the last return was at this place; it also has the lanes with an open call
pub record KeepsRun (past : List Event) (last : ℕ) (half : Half) : Type 0 where
  pub kept : AreKept (judged half.object) past half.table.items last half.positions.items
  pub busy : HasEachOpen half.table.items half.busy

-- more different positions than so many are possible after these events
pub record HasMore (past : List Event) (most : ℕ) (half : Half) : Type 0 where
  pub many : List Position
  pub more : most < length many
  pub different : AllPairs (λ (p q : Position). p ≢ q) many
  pub possible : All (IsPossible (judged half.object) past half.table.items) many

-- the same, in memory of its own
pub record IsSameHalf (half copy : Half) : Type 0 where
  pub object : copy.object ≡ half.object
  pub table : copy.table.items ≡ half.table.items
  pub busy : copy.busy ≡ half.busy
  pub positions : copy.positions.items ≡ half.positions.items
