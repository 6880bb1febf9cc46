-- Numbers that tell a state of an object.
use Rattle.std.specs.Prelude.{ℕ}
use Rattle.stamp_sets.specs.Judged.{Judged}

-- the number tells a state
pub record IsState {S : Type 0} (o : Judged S) (number : ℕ) : Type 0 where
  pub state : S
  pub holds : o.holds number state
