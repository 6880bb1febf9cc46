-- A word has one writer, or readers alone.
use Rattle.std.proofs.Common.{◌≡◌, ◌⊎◌, ℕ, arith}
use Rattle.std.proofs.lemmas.Grind.{common_steps}
use Rattle.stamp_core.specs.Layout.{Units}
use Rattle.stamp_core.specs.Decoded.{counts_of}

pub one_holder : (u : Units) (n : ℕ) → ((counts_of u n).writers ≡ 0) ⊎
    (((counts_of u n).writers ≡ 1) × ((counts_of u n).readers ≡ 0))
unfolding counts_of
one_holder u n = grind (arith, common_steps)
