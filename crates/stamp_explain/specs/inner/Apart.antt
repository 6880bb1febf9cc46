-- The subhistory of the lock, or of the record: its calls alone, and where they stand in the whole; and how orders of
-- the two are merged.
use Rattle.std.specs.Prelude.{ℕ, ◌+◌, Bool, List, [], ◌∷◌, ◌++◌, cond}
use Rattle.std.specs.Prelude.{nat_lt, if◌then◌else◌, Option, Some, None}
use Rattle.stamp_explain.specs.declared.observed.Observation.{Observation}

-- where the entries that pass stand, of entries that stand from i on
abbrev pub indices_where : (Observation → Bool) → ℕ → List Observation → List ℕ
indices_where p i [] = []
indices_where p i (e ∷ es) = cond (p e) (i ∷ indices_where p (i + 1) es) (indices_where p (i + 1) es)

abbrev pub begins_at : Option Observation → ℕ
begins_at None = 0
begins_at (Some e) = e.first

-- of a list those before the first whose number isn't less than this, and the others
abbrev pub lesser : {X : Type 0} → (X → ℕ) → ℕ → List X → List X
lesser number n [] = []
lesser number n (x ∷ xs) = if nat_lt (number x) n then x ∷ lesser number n xs else []

abbrev pub not_lesser : {X : Type 0} → (X → ℕ) → ℕ → List X → List X
not_lesser number n [] = []
not_lesser number n (x ∷ xs) = if nat_lt (number x) n then not_lesser number n xs else x ∷ xs

-- two lists in one: each of the first comes after those of the second that are less
abbrev pub merge_by : {X : Type 0} → (X → ℕ) → List X → List X → List X
merge_by number [] ys = ys
merge_by number (x ∷ xs) ys = lesser number (number x) ys ++ x ∷ merge_by number xs (not_lesser number (number x) ys)
