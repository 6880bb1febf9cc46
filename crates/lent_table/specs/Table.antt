-- A table as plain data: one word, one value and the views of its seats, and what a step does to them.
use Rattle.std.specs.Prelude.{◌≡◌, ◌≢◌, ℕ, suc, ◌<◌, ◌^◌, List, [], ◌∷◌, ◌++◌, slice_set, Bool, true, false, Option}
use Rattle.std.specs.Prelude.{Some, None}
use Rattle.std.specs.Coded.{Coded, coded_bool, coded×, coded_option}
use mathlib.Core.Path.{sym, ap, ◌∙◌}
use mathlib.Core.Option as maybe
use lib.ListN.{get_elem?}
use base.Stored.{coded_via}

-- where the value is: with one seat, which may write it, or lent to so many readers
pub data Home (T : Type 0) : Type 0 where
  away : Home T
  lent : ℕ → T → Home T

pub record State (T V : Type 0) : Type 0 where
  pub word : ℕ
  pub home : Home T
  pub views : List V

-- what a seat has of the value: nothing, the right to read it, or the right to write it
pub data Hold (T : Type 0) : Type 0 where
  none : Hold T
  reads : T → Hold T
  writes : T → Hold T

-- the value, where the seat may see it
abbrev pub value_of : {T : Type 0} → Hold T → Option T
value_of none = None
value_of (reads x) = Some x
value_of (writes x) = Some x

-- a seat's view, and its hold
abbrev pub Me : Type 0 → Type 0 → Type 0
Me T V = V × Hold T

-- what a step does: nothing; a reader comes, and goes; a writer takes the value, and gives it back; the one reader
-- grows to be the writer; and the writer shrinks to be a reader. A value stands for what the writer found or left
pub data Act (T : Type 0) : Type 0 where
  stays : Act T
  comes : ℕ → T → Act T
  goes : ℕ → T → Act T
  takes : T → Act T
  gives : T → Act T
  grows : T → Act T
  shrinks : T → Act T

module _ {T : Type 0} where
  abbrev pub home_after : Home T → Act T → Home T
  home_after h stays = h
  home_after h (comes m x) = lent (suc m) x
  home_after h (goes m x) = lent m x
  home_after h (takes x) = away
  home_after h (gives x) = lent 0 x
  home_after h (grows x) = away
  home_after h (shrinks x) = lent 1 x

  abbrev pub hold_after : Hold T → Act T → Hold T
  hold_after o stays = o
  hold_after o (comes m x) = reads x
  hold_after o (goes m x) = none
  hold_after o (takes x) = writes x
  hold_after o (gives x) = none
  hold_after o (grows x) = writes x
  hold_after o (shrinks x) = reads x

  -- where an act may be: beside the value's place, and the seat's hold
  abbrev pub Valid : Home T → Hold T → Act T → Type 0
  Valid h o stays = Unit {0}
  Valid h o (comes m x) = (h ≡ lent m x) × (o ≡ none) × (m < 2 ^ 62)
  Valid h o (goes m x) = (h ≡ lent (suc m) x) × (m < 2 ^ 62) × ((y : T) × (o ≡ reads y))
  Valid h o (takes x) = (h ≡ lent 0 x) × (o ≡ none)
  Valid h o (gives x) = (h ≡ away) × (o ≡ writes x)
  Valid h o (grows x) = (h ≡ lent 1 x) × ((y : T) × (o ≡ reads y))
  Valid h o (shrinks x) = (h ≡ away) × (o ≡ writes x)

module _ {T : Type 0} where
  -- what a seat's hold tells of the value's place: a reader is counted there, and from a writer it is away
  abbrev pub Fits : Home T → Hold T → Type 0
  Fits h none = Unit {0}
  Fits h (reads y) = (m : ℕ) × ((x : T) × (h ≡ lent (suc m) x))
  Fits h (writes y) = h ≡ away

-- what an exchange looks for in the word, and what it writes there; a load has zeros
pub record Step : Type 0 where
  pub old : ℕ
  pub new : ℕ

abbrev pub step : ℕ → ℕ → Step
step a b = record { old = a; new = b }

module _ {T V : Type 0} where
  -- the table once the seat id made the word n, took the view w and did a
  abbrev pub stepped : State T V → ℕ → ℕ → V → Act T → State T V
  stepped s n id w a = record { word = n; home = home_after s.home a; views = slice_set s.views id w }

  -- what a table may be when a seat makes a step: the rule holds, and the seat's view and hold are in it
  pub record Finds (holds : State T V → Type 0) (id : ℕ) (me : Me T V) (s : State T V) : Type 0 where
    pub rule : holds s
    pub view : get_elem? s.views id ≡ maybe.some me.0
    pub hold : Fits s.home me.1
    pub small : s.word < 2 ^ 64

  -- Whatever the table is when the word becomes f of what it was, the seat has a new view and an act that keep the
  -- rule, and `then` holds of the number found and of the seat after
  abbrev pub Allows : (State T V → Type 0) → ℕ → Me T V → (ℕ → ℕ) → (ℕ → Me T V → Type 0) → Type 0
  Allows holds id me f then = (s : State T V) → Finds holds id me s
      → (w : V) × (a : Act T) × Valid s.home me.1 a × holds (stepped s (f s.word) id w a)
      × then s.word (w, hold_after me.1 a)

  -- where the table is s and its word is only read, the seat has a new view that keeps the rule
  abbrev pub LearnsAt : (State T V → Type 0) → ℕ → Me T V → (ℕ → Me T V → Type 0) → State T V → Type 0
  LearnsAt holds id me then s = (w : V) × holds (stepped s s.word id w stays) × then s.word (w, me.1)

  -- the same as `Allows` where the word is only read: the seat's view alone may change
  abbrev pub Learns : (State T V → Type 0) → ℕ → Me T V → (ℕ → Me T V → Type 0) → Type 0
  Learns holds id me then = (s : State T V) → Finds holds id me s → LearnsAt holds id me then s

  -- beside the seat id the table has another, whose view this is
  abbrev pub Neighbours : ℕ → ℕ → V → State T V → Type 0
  Neighbours id other v s = (other ≢ id) × (get_elem? s.views other ≡ maybe.some v)

  -- the same as `Learns` where the reader has another seat of the table, with this view
  abbrev pub LearnsBeside : (State T V → Type 0) → ℕ → Me T V → ℕ → V → (ℕ → Me T V → Type 0) → Type 0
  LearnsBeside holds id me other v then = (s : State T V) → Finds holds id me s → Neighbours id other v s
      → LearnsAt holds id me then s

  -- the same where a new seat reads the word, which has nothing of the value
  abbrev pub Enters : (State T V → Type 0) → (ℕ → Me T V → Type 0) → Type 0
  Enters holds then = (s : State T V) → holds s → s.word < 2 ^ 64
      → (w : V) × holds record { word = s.word; home = s.home; views = s.views ++ w ∷ [] } × then s.word (w, none)

  -- the table at first: its one seat has this view, and the value is lent to nobody
  abbrev pub opening : ℕ → V → T → State T V
  opening n v x = record { word = n; home = lent 0 x; views = v ∷ [] }

  -- the table at last: the rule holds with these views, and a value that was lent is what was lent
  abbrev pub Closes : (State T V → Type 0) → ℕ → T → List V → Type 0
  Closes holds n x views = (s : State T V) × holds s × (s.word ≡ n) × (s.views ≡ views)
      × ((m : ℕ) (y : T) → s.home ≡ lent m y → x ≡ y)

module _ {T : Type 0} where
  -- a hold as an option of the value, and whether it may be written
  abbrev pub told : Hold T → Option (Bool × T)
  told none = None
  told (reads x) = Some (false, x)
  told (writes x) = Some (true, x)

  abbrev pub hold_of : Option (Bool × T) → Hold T
  hold_of None = none
  hold_of (Some (false, x)) = reads x
  hold_of (Some (true, x)) = writes x

  pub hold_of-told : (o : Hold T) → hold_of (told o) ≡ o
  hold_of-told none = λ i. none
  hold_of-told (reads x) = λ i. reads x
  hold_of-told (writes x) = λ i. writes x

abbrev pub me_coded : {T V : Type 0} → Coded T → Coded V → Coded (Me T V)
me_coded {T} t v = coded× v (coded_via (coded_option (coded× coded_bool t)) told (λ x y e.
    sym (hold_of-told x) ∙ (ap hold_of e ∙ hold_of-told y)))
