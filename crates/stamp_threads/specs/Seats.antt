-- Where passes stand. The view of a seat of the table is the list of the passes that it holds:
-- one, and two while they meet.
use Rattle.std.specs.Prelude.{List, [], ◌∷◌}
use Rattle.atomic_table.specs.Table.{Me}
use Rattle.stamp_threads.specs.declared.pass_view.PassView.{PassView}
use Rattle.stamp_threads.specs.PassView.{first_pass}

module _ {E P : Type 0} where
  -- the first pass of a seat, and the first of all where there is none
  abbrev pub first_of : P → List (PassView E P) → PassView E P
  first_of phase [] = first_pass phase
  first_of phase (v ∷ vs) = v

module _ {V : Type 0} where
  -- the seat holds this pass alone, and no slot
  abbrev pub alone : V → Me (Unit {0}) (List V)
  alone v = (v ∷ [], [])
