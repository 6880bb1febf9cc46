-- Names of passes: a root, and then a path. The first pass has the root 0 and each that enters the
-- next root, with no path; the j-th split of a pass gives a pass whose path has j more.
use Rattle.std.specs.Prelude.{◌≡◌, ℕ, ◌<◌, List, [], ◌∷◌, ◌++◌}
use Rattle.stamp_threads.specs.declared.pass_view.LogEntry.{LogEntry}

-- if the other name goes on from this one by a number, a pass of this name that was split this
-- often has given that number
abbrev pub HasGiven : List ℕ → ℕ → List ℕ → Type 0
HasGiven name splits other = (j : ℕ) (rest : List ℕ) → other ≡ name ++ j ∷ rest → j < splits

-- so it is with the names of all entries
abbrev pub HasGivenAll : {E : Type 0} → List ℕ → ℕ → List (LogEntry E) → Type 0
HasGivenAll name splits [] = Unit {0}
HasGivenAll name splits (e ∷ log) = HasGiven name splits e.name × HasGivenAll name splits log

-- the name has a root, which is below this number
abbrev pub IsRooted : ℕ → List ℕ → Type 0
IsRooted roots [] = ⊥
IsRooted roots (root ∷ path) = root < roots

-- so it is with the names of all entries
abbrev pub AreRooted : {E : Type 0} → ℕ → List (LogEntry E) → Type 0
AreRooted roots [] = Unit {0}
AreRooted roots (e ∷ log) = IsRooted roots e.name × AreRooted roots log
