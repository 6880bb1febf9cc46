-- How many lanes are in a set.
use Rattle.std.specs.Prelude.{ℕ, ◌+◌}
use Rattle.std.proofs.Common.{zero, suc}
use Rattle.std.specs.Int.{bit_at}

-- how many of the first n lanes are in it
unfoldable pub lanes_below : ℕ → ℕ → ℕ
lanes_below zero lanes = 0
lanes_below (suc n) lanes = bit_at lanes n + lanes_below n lanes

unfoldable pub lanes_in : ℕ → ℕ
lanes_in lanes = lanes_below 64 lanes
