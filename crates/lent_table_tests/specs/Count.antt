-- A word that counts who has the value, and what a step on it tells.
use Rattle.std.specs.Prelude.{◌≡◌, ◌≢◌, ℕ, suc, ◌<◌, ◌≤◌}
use Rattle.lent_table.specs.Table.{Home, away, lent, Hold, none, reads, writes, Step, Me}

module _ {T : Type 0} where
  -- 0 is a writer, and else the word is 1 and as many as read
  abbrev pub Counts : Home T → ℕ → Type 0
  Counts away n = n ≡ 0
  Counts (lent m x) n = (n ≡ suc m) × (m ≤ 100)

  abbrev pub Idles : Hold T → Type 0
  Idles o = o ≡ none

  abbrev pub Reads : Hold T → Type 0
  Reads o = (x : T) × (o ≡ reads x)

  abbrev pub Writes : Hold T → Type 0
  Writes o = (x : T) × (o ≡ writes x)

module _ {T V : Type 0} where
  -- a load leaves what the seat has, and finds a reader counted
  abbrev pub Looked : Step → Me T V → ℕ → Me T V → Type 0
  Looked a old n new = (new.1 ≡ old.1) × (Reads old.1 → 1 < n)

  -- an exchange that is made brings this about, and one that isn't leaves what the seat has
  abbrev pub Brings : (Hold T → Type 0) → Step → Me T V → ℕ → Me T V → Type 0
  Brings this a old n new = (n ≡ a.old → this new.1) × (n ≢ a.old → new.1 ≡ old.1)

  -- an exchange leaves the seat nothing of the value
  abbrev pub Frees : Step → Me T V → ℕ → Me T V → Type 0
  Frees a old n new = new.1 ≡ none
