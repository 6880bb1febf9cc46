-- The values that a guarded value has had, the first one first.
use Rattle.std.specs.Prelude.{◌≡◌, suc, List, [], ◌∷◌, ◌++◌, length, count_by}
use mathlib.Core.List.{IsPrefix}
use Rattle.stamp_core.specs.Limits.{Bounds}
use Rattle.stamp_core.specs.LockEvent.{is_write_released}
use Rattle.stamp_threads.specs.LockLog.{LockLog, events_after}

-- one for each version: the first value, and what each release of write mode left
abbrev pub HasValues : {T : Type 0} → Bounds → LockLog → List T → Type 0
HasValues limits log values = length values ≡ suc (count_by is_write_released (events_after limits log))

-- x is the last of them
abbrev pub IsLastOf : {T : Type 0} → List T → T → Type 0
IsLastOf {T} values x = (earlier : List T) × (values ≡ earlier ++ x ∷ [])

-- x is the first of them
abbrev pub Opens : {T : Type 0} → T → List T → Type 0
Opens x values = IsPrefix (x ∷ []) values
