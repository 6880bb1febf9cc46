-- The orders in which calls of two objects take effect, as one of both.
use Rattle.std.specs.Prelude.{ℕ, ◌≤◌, Bool, List, [], ◌∷◌, map, length, get_or}
use Rattle.stamp_core.specs.declared.call.Call.{Call}
use Rattle.stamp_runs.specs.declared.event.Event.{Event}
use Rattle.stamp_runs.specs.Own.{own_numbers}
use Rattle.stamp_runs.specs.Trace.{Taken, taken_at}

-- each point is told by this instead
abbrev pub with_point : (ℕ → ℕ) → Taken → Taken
with_point tells x = taken_at (tells x.point) (x.lane, x.reply)

-- an order along the own events, by the numbers of all
abbrev pub among_all : (Call → Bool) → List Event → List Taken → List Taken
among_all mine events order =
    map (with_point (λ (point : ℕ). get_or (own_numbers mine events) point (length events))) order

-- the effects of the one order and of the other, each in its order
pub data Merges : List Taken → List Taken → List Taken → Type 0 where
  none_left : Merges [] [] []
  first_next : {first second order : List Taken} (x : Taken) → Merges first second order →
      Merges (x ∷ first) second (x ∷ order)
  second_next : {first second order : List Taken} (x : Taken) → Merges first second order →
      Merges first (x ∷ second) (x ∷ order)

-- they stand in the order of their points, none of which is lower than this one
abbrev pub Ascends : ℕ → List Taken → Type 0
Ascends n [] = Unit {0}
Ascends n (x ∷ order) = (n ≤ x.point) × Ascends x.point order
