-- Sets of lanes as the bits of a number.
use Rattle.std.specs.Prelude.{ℕ, ◌≡◌, ◌≢◌}
use Rattle.std.specs.Int.{bit_at}

-- the bit of this lane becomes this, and the others stay
pub record SetsBit (old new lane bit : ℕ) : Type 0 where
  pub here : bit_at new lane ≡ bit
  pub others : (other : ℕ) → other ≢ lane → bit_at new other ≡ bit_at old other
