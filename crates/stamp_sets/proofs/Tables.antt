-- The open calls of lanes, one of them put.
use Rattle.std.proofs.Common.{ℕ, zero, suc, ◌≡◌, ◌≢◌, ◌<◌, List, [], ◌∷◌, length, Option, Some, None, refl, sym, ◌∙◌}
use Rattle.std.proofs.Common.{ap, subst, arith}
use Rattle.std.specs.Prelude.{slice_set, replicate}
use Rattle.std.proofs.lemmas.Option.{none-some, same_Some}
use Rattle.stamp_sets.specs.declared.open_call.OpenCall.{OpenCall}
use Rattle.stamp_sets.specs.Told.{open_at}

pub open_at_within : (table : List (Option OpenCall)) (lane : ℕ) (o : OpenCall) → open_at table lane ≡ Some o →
    lane < length table
open_at_within [] lane o is = absurd (none-some o is)
open_at_within (x ∷ xs) zero o is = omega arith
open_at_within (x ∷ xs) (suc i) o is = omega (arith, open_at_within xs i o is)

pub open_at_set_none : (table : List (Option OpenCall)) (lane : ℕ) → open_at (slice_set table lane None) lane ≡ None
open_at_set_none [] lane = refl
open_at_set_none (x ∷ xs) zero = refl
open_at_set_none (x ∷ xs) (suc i) = open_at_set_none xs i

pub open_at_set_here : (table : List (Option OpenCall)) (lane : ℕ) (slot : Option OpenCall) → lane < length table →
    open_at (slice_set table lane slot) lane ≡ slot
open_at_set_here [] lane slot less = absurd (omega arith)
open_at_set_here (x ∷ xs) zero slot less = refl
open_at_set_here (x ∷ xs) (suc i) slot less = open_at_set_here xs i slot (omega arith)

pub open_at_set_other : (table : List (Option OpenCall)) (lane other : ℕ) (slot : Option OpenCall) → other ≢ lane →
    open_at (slice_set table lane slot) other ≡ open_at table other
open_at_set_other [] lane other slot apart = refl
open_at_set_other (x ∷ xs) zero zero slot apart = absurd (apart refl)
open_at_set_other (x ∷ xs) zero (suc other) slot apart = refl
open_at_set_other (x ∷ xs) (suc i) zero slot apart = refl
open_at_set_other (x ∷ xs) (suc i) (suc other) slot apart =
    open_at_set_other xs i other slot (λ e. apart (ap suc e))

pub open_at_idle : (n lane : ℕ) → open_at (replicate n None) lane ≡ None
open_at_idle zero lane = refl
open_at_idle (suc n) zero = refl
open_at_idle (suc n) (suc i) = open_at_idle n i

-- a lane has one open call
pub one_open : (table : List (Option OpenCall)) (lane : ℕ) (a b : OpenCall) → open_at table lane ≡ Some a →
    open_at table lane ≡ Some b → a ≡ b
one_open table lane a b is also = same_Some a b (sym is ∙ also)

-- an idle lane is another than one with an open call
pub idle_apart : (table : List (Option OpenCall)) (lane other : ℕ) (o : OpenCall) → open_at table lane ≡ None →
    open_at table other ≡ Some o → other ≢ lane
idle_apart table lane other o idle is same =
    none-some o (sym idle ∙ subst (λ (u : ℕ). open_at table u ≡ Some o) same is)
