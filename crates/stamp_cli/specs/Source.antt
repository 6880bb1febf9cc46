-- What reads of a source did.
use Rattle.std.specs.Prelude.{ℕ, ◌+◌, ◌≡◌, ◌≤◌, List, [], length, Option}
use Rattle.std.specs.Io.KnownBytes.{Keeps, Consumes, IsAtEnd}

-- the most bytes of an input
abbrev pub most_bytes : ℕ
most_bytes = 16777216

-- the most reads of an input: each but the last takes a byte
abbrev pub most_reads : ℕ
most_reads = 16777217

-- the most bytes that are taken as an input: one past the most shows that it is too long
abbrev pub most_taken : ℕ
most_taken = most_bytes + 1

-- no more than this many bytes were taken
abbrev pub TakesAtMost : Option (List ℕ) → Option (List ℕ) → ℕ → Type 0
TakesAtMost old new most = (taken : List ℕ) × Consumes old new taken × (length taken ≤ most)

-- what was read is input: all to the end, or to one byte past the most
pub record Reads (old new : Option (List ℕ)) (input : List ℕ) : Type 0 where
  pub took : Consumes old new input
  pub within : length input ≤ most_bytes + 1
  pub whole : length input ≤ most_bytes → IsAtEnd new

-- nothing was read
pub record ReadsNone (old new : Option (List ℕ)) (input : List ℕ) : Type 0 where
  pub kept : Keeps old new
  pub none : input ≡ []
