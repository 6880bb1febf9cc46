-- No picture is too wide.
use Rattle.std.proofs.Common.{◌≡◌, ℕ, ◌*◌, ◌≤◌, ◌<◌, ◌⊎◌, inl, inr, List, length, arith}
use Rattle.std.proofs.Common.{Bool, true, false, refl}
use Rattle.std.specs.Prelude.{◌/◌, min, max, nat_le, if◌then◌else◌}
use Rattle.std.proofs.Math.Nat.{div-mul-le_self}
use Rattle.std.proofs.lemmas.Bool.{cases_lt}
use Rattle.std.proofs.lemmas.Nat.{mul-le}
use Rattle.stamp_picture.specs.Frames.{right_of}

room : (n d m : ℕ) → n ≤ m → d * m ≤ 1200 → d * n ≤ 1200
room n d m le whole = omega (arith, whole, mul-le d n d m (omega arith) le)

choice : (d : ℕ) → (max 16 (min 60 d) ≤ 16) ⊎ (max 16 (min 60 d) ≤ d)
choice d = which (cases_lt 16 d)
  where
    which : (16 < d) ⊎ (d ≤ 16) → (max 16 (min 60 d) ≤ 16) ⊎ (max 16 (min 60 d) ≤ d)
    which (inl lt) = inr (omega (arith, lt))
    which (inr ge) = inl (omega (arith, ge))

within : (u n d : ℕ) → n ≤ 2000 → d * n ≤ 1200 → (u ≤ 16) ⊎ (u ≤ d) → u * n ≤ 32000
within u n d few shared (inl narrow) = omega (arith, mul-le u n 16 2000 narrow few)
within u n d few shared (inr wide) = omega (arith, shared, mul-le u n d n wide (omega arith))

columns : (few : Bool) (n : ℕ) → n ≤ 6000 → nat_le n 2000 ≡ few →
    (if few then max 16 (min 60 (1200 / max 1 n)) else 5) * n ≤ 32000
columns true n small is =
    let d = 1200 / max 1 n in
    within (max 16 (min 60 d)) n d (grind (arith, is))
    (room n d (max 1 n) (omega arith) (div-mul-le_self 1200 (max 1 n))) (choice d)
columns false n small is = omega (arith, small)

pub is_narrow : (positions : List ℕ) → length positions ≤ 6000 → right_of positions ≤ 32140
is_narrow positions small =
    let n = length positions in
    omega (arith, columns (nat_le n 2000) n small refl)
