-- What holds of the other seats, and of the new view of a seat, holds of all views once the seat has it.
use Rattle.std.proofs.Common.{◌≡◌, ◌≢◌, ℕ, zero, suc, List, [], ◌∷◌, set, sym, subst, arith}
use mathlib.Core.Option.{some, some-injective, some-ne-none}
use lib.ListN.{get_elem?}

pub after_one : {V : Type 0} (P : V → Type 0) (vs : List V) (id : ℕ) (w : V) → P w →
    ((k : ℕ) (u : V) → k ≢ id → get_elem? vs k ≡ some u → P u) → (k : ℕ) (u : V) →
    get_elem? (set vs id w) k ≡ some u → P u
after_one P [] id w own others k u e = absurd (some-ne-none u (sym e))
after_one P (x ∷ vs) zero w own others zero u e = subst P (some-injective w u e) own
after_one P (x ∷ vs) zero w own others (suc k) u e = others (suc k) u (omega arith) e
after_one P (x ∷ vs) (suc id) w own others zero u e = others zero u (omega arith) e
after_one P (x ∷ vs) (suc id) w own others (suc k) u e =
    after_one P vs id w own (λ j v ne h. others (suc j) v (omega (arith, ne)) h) k u e
