-- What holds of all passes at the seats of a table, and of two at one seat.
use Rattle.std.specs.Prelude.{◌≡◌, ℕ, List, [], ◌∷◌}
use Rattle.atomic_table.specs.Seated.{TableId}
use mathlib.Core.Option.{some}
use lib.ListN.{get_elem?}
use Rattle.atomic_table.specs.Table.{Me}
use Rattle.atomic_table.specs.declared.shared.Seat.{Seat}
use Rattle.stamp_threads.specs.declared.pass_view.PassView.{PassView}
use Rattle.stamp_threads.specs.declared.pass_view.LogEntry.{LogEntry}
use Rattle.stamp_threads.specs.PassName.{HasGiven, IsRooted, AreRooted}
use Rattle.stamp_threads.specs.PassView.{first_pass}
use Rattle.stamp_threads.specs.Seats.{first_of, alone}

-- v is the k-th pass of the seat i
abbrev pub StandsAt : {V : Type 0} → List (List V) → ℕ → ℕ → V → Type 0
StandsAt {V} seats i k v = (vs : List V) × (get_elem? seats i ≡ some vs) × (get_elem? vs k ≡ some v)

-- each pass that stands is so; the names of two are apart; no name stands that a pass may still give;
-- and the names that stand, and those of the entries, have roots that were taken
pub record AreSeated {E P : Type 0} (Fits : PassView E P → Type 0) (roots : ℕ)
    (log : List (LogEntry E)) (seats : List (List (PassView E P))) : Type 0 where
  pub fits : (i k : ℕ) (v : PassView E P) → StandsAt seats i k v → Fits v
  pub apart : (i k j l : ℕ) (v w : PassView E P) → StandsAt seats i k v → StandsAt seats j l w →
      v.name ≡ w.name → (i ≡ j) × (k ≡ l)
  pub given : (i k j l : ℕ) (v w : PassView E P) → StandsAt seats i k v → StandsAt seats j l w →
      HasGiven v.name v.splits w.name
  pub rooted : (i k : ℕ) (v : PassView E P) → StandsAt seats i k v → IsRooted roots v.name
  pub entries : AreRooted roots log

module _ {E P : Type 0} where
  -- the second pass of a seat, and the first of all where there is none
  abbrev pub second_of : P → List (PassView E P) → PassView E P
  second_of phase [] = first_pass phase
  second_of phase (v ∷ vs) = first_of phase vs

module _ {V : Type 0} where
  -- the seat holds both
  abbrev pub both : V → V → Me (Unit {0}) (List V)
  both v w = (v ∷ w ∷ [], [])

  -- the seat is one of this table, and this pass stands there alone
  abbrev pub StandsAlone : TableId → Seat (Unit {0}) (List V) → V → Type 0
  StandsAlone table seat v = (seat.table_id ≡ table) × (seat.me ≡ alone v)

module _ {E P : Type 0} where
  -- the seat is one of this table, which has so many words, and one pass stands there alone
  abbrev pub IsAtSeat : P → TableId → ℕ → TableId → Me (Unit {0}) (List (PassView E P)) → Type 0
  IsAtSeat phase table words seat me =
      (seat ≡ table) × (table.words ≡ words) × (me ≡ alone (first_of phase me.0))

  -- and two passes, which meet there
  abbrev pub AreAtSeat : P → TableId → ℕ → TableId → Me (Unit {0}) (List (PassView E P)) → Type 0
  AreAtSeat phase table words seat me =
      (seat ≡ table) × (table.words ≡ words) × (me ≡ both (first_of phase me.0) (second_of phase me.0))
