use Rattle.std.proofs.Common.{w64, ℕ, ◌≡◌, ◌≢◌, ◌⊎◌, ◌<◌, ◌≤◌, ◌*◌, ◌^◌, ◌%◌, sym, ◌∙◌, ap, inl, inr, min, bit_and}
use Rattle.std.proofs.Common.{arith}
use Rattle.std.specs.Int.{bit_at, bit_not}
use Rattle.std.proofs.lemmas.Bool.{cases_lt}
use Rattle.std.proofs.lemmas.Nat.Bits.{bit_at_and, bit_at_above, bit_at_clear_same, bit_at_clear_other}
use Rattle.stamp_sets.proofs.lanes.without_lane.Goals as goal

beyond : (n m i : ℕ) → n < 2 ^ 64 → 64 ≤ i → bit_at (bit_and n m) i ≡ bit_at n i
beyond n m i small high =
    let none : bit_at n i ≡ 0 = bit_at_above n 64 i small high in
    let least : min 0 (bit_at m i) ≡ 0 = omega arith in
    bit_at_and n m i ∙ ap (λ (b : ℕ). min b (bit_at m i)) none ∙ least ∙ sym none

pub returns : goal.returns
returns c = record {
  here = bit_at_clear_same w64 c.args.lanes c.args.lane c.requires;
  others = λ other apart. by other apart (cases_lt other 64);
}
  where
    by : (other : ℕ) → other ≢ c.args.lane → (other < 64) ⊎ (64 ≤ other) →
        bit_at (bit_and c.args.lanes (bit_not w64 (1 * 2 ^ c.args.lane % 2 ^ 64))) other ≡ bit_at c.args.lanes other
    by other apart (inl low) = bit_at_clear_other w64 c.args.lanes c.args.lane c.requires other low apart
    by other apart (inr high) = beyond c.args.lanes _ other c.ranges.lanes.fits high
