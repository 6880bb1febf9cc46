-- What one read of a source did.
use Rattle.std.specs.Prelude.{ℕ, ◌+◌, ◌≡◌, ◌<◌, ◌≤◌, ◌++◌, List, [], length, Bool, true, false, Option}
use Rattle.std.specs.Io.KnownBytes.{Consumes, IsAtEnd}
use Rattle.stamp_cli.specs.Source.{most_bytes}

-- one read took the bytes by which the input grew, none only at the end
pub record ReadsMore (old new : Option (List ℕ)) (before after : List ℕ) (more : Bool) : Type 0 where
  pub taken : List ℕ
  pub took : Consumes old new taken
  pub grown : after ≡ before ++ taken
  pub within : length after ≤ most_bytes + 1
  pub longer : more ≡ true → 0 < length taken
  pub at_end : more ≡ false → (taken ≡ []) × IsAtEnd new
