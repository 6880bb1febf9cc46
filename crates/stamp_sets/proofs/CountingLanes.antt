-- How many lanes are in a set.
use Rattle.std.specs.Prelude.{◌↔◌, IsTrue}
use Rattle.std.proofs.Common.{Bool, false, ℕ, zero, suc, ◌≡◌, ◌≢◌, ◌⊎◌, ◌+◌, ◌<◌, ◌≤◌, refl, sym, ◌∙◌, subst, inl}
use Rattle.std.proofs.Common.{inr, arith}
use Rattle.std.proofs.lemmas.Bool.{cases_eq, false≢true}
use Rattle.std.proofs.lemmas.Nat.Bits.{bit_at-lt, bit_at-zero}
use Rattle.std.specs.Int.{bit_at}
use Rattle.stamp_sets.specs.Lanes.{SetsBit}
use Rattle.stamp_sets.specs.inner.Lanes.{lanes_below, lanes_in}

lanes_below_le : (n lanes : ℕ) → lanes_below n lanes ≤ n
unfolding lanes_below
lanes_below_le zero lanes = omega arith
lanes_below_le (suc n) lanes = omega (arith, lanes_below_le n lanes, bit_at-lt lanes n)

lanes_below_same : (n a b k bit : ℕ) → n ≤ k → SetsBit a b k bit → lanes_below n b ≡ lanes_below n a
unfolding lanes_below
lanes_below_same zero a b k bit less sets = refl
lanes_below_same (suc n) a b k bit less sets =
    let rest : lanes_below n b ≡ lanes_below n a = lanes_below_same n a b k bit (omega arith) sets in
    let apart : n ≢ k = omega arith in
    let here : bit_at b n ≡ bit_at a n = sets.others n apart in
    omega (arith, rest, here)

lanes_below_more : (n a b k : ℕ) → k < n → SetsBit a b k 1 → bit_at a k ≡ 0 → lanes_below n b ≡ lanes_below n a + 1
unfolding lanes_below
lanes_below_more zero a b k less sets free = absurd (omega arith)
lanes_below_more (suc n) a b k less sets free =
    by (cases_eq n k) (λ below. lanes_below_more n a b k below sets free)
  where
    by : (n ≡ k) ⊎ (n ≢ k) → (k < n → lanes_below n b ≡ lanes_below n a + 1) →
        bit_at b n + lanes_below n b ≡ bit_at a n + lanes_below n a + 1
    by (inl same) later =
        let rest : lanes_below n b ≡ lanes_below n a = lanes_below_same n a b k 1 (omega arith) sets in
        let here : bit_at b n ≡ 1 = subst (λ (i : ℕ). bit_at b i ≡ 1) (sym same) sets.here in
        let was : bit_at a n ≡ 0 = subst (λ (i : ℕ). bit_at a i ≡ 0) (sym same) free in
        omega (arith, rest, here, was)
    by (inr apart) later =
        let rest : lanes_below n b ≡ lanes_below n a + 1 = later (omega arith) in
        let here : bit_at b n ≡ bit_at a n = sets.others n apart in
        omega (arith, rest, here)

pub lanes_in_le : (lanes : ℕ) → lanes_in lanes ≤ 64
unfolding lanes_in
lanes_in_le lanes = lanes_below_le 64 lanes

pub lanes_in_more : (a b k : ℕ) → k < 64 → SetsBit a b k 1 → bit_at a k ≡ 0 → lanes_in b ≡ lanes_in a + 1
unfolding lanes_in
lanes_in_more a b k less sets free = lanes_below_more 64 a b k less sets free

-- lanes from 64 on are not counted
pub lanes_in_beyond : (a b k bit : ℕ) → 64 ≤ k → SetsBit a b k bit → lanes_in b ≡ lanes_in a
unfolding lanes_in
lanes_in_beyond a b k bit beyond sets = lanes_below_same 64 a b k bit beyond sets

pub lanes_in_one : (a b k : ℕ) → k < 64 → SetsBit a b k 0 → bit_at a k ≡ 1 → lanes_in a ≡ lanes_in b + 1
lanes_in_one a b k less sets taken =
    lanes_in_more b a k less (record { here = taken; others = λ other apart. sym (sets.others other apart) }) sets.here

-- there is none in 0
lanes_below_none : (n : ℕ) → lanes_below n 0 ≡ 0
unfolding lanes_below
lanes_below_none zero = refl
lanes_below_none (suc n) = omega (arith, lanes_below_none n, bit_at-zero n)

pub lanes_in_none : lanes_in 0 ≡ 0
unfolding lanes_in
lanes_in_none = lanes_below_none 64

pub lanes_in_less : (a b k : ℕ) → k < 64 → SetsBit a b k 0 → bit_at a k ≡ 1 → lanes_in b < lanes_in a
lanes_in_less a b k less sets taken =
    let more : lanes_in a ≡ lanes_in b + 1 =
    lanes_in_more b a k less (record { here = taken; others = λ other apart. sym (sets.others other apart) })
    sets.here in
    omega (arith, more)

-- a bit that is not set is 0
pub bit_free : (lanes lane : ℕ) (b : Bool) → IsTrue b ↔ (bit_at lanes lane ≡ 1) → b ≡ false → bit_at lanes lane ≡ 0
bit_free lanes lane b is unset =
    let less : bit_at lanes lane < 2 = bit_at-lt lanes lane in
    let apart : bit_at lanes lane ≢ 1 = λ e. false≢true (sym unset ∙ is.1 e) in
    omega arith

-- each lane of the one is among the others
abbrev pub AreWithin : ℕ → ℕ → Type 0
AreWithin rest lanes = (l : ℕ) → bit_at rest l ≡ 1 → bit_at lanes l ≡ 1

pub within_itself : (lanes : ℕ) → AreWithin lanes lanes
within_itself lanes l is = is

pub within_less : (rest later lanes k : ℕ) → SetsBit rest later k 0 → AreWithin rest lanes → AreWithin later lanes
within_less rest later lanes k clears within l is = within l (by (cases_eq l k))
  where
    by : (l ≡ k) ⊎ (l ≢ k) → bit_at rest l ≡ 1
    by (inl same) = let none = clears.here in
        let one : bit_at later k ≡ 1 = subst (λ (u : ℕ). bit_at later u ≡ 1) same is in absurd
        (omega (arith, none, one))
    by (inr apart) = sym (clears.others l apart) ∙ is
