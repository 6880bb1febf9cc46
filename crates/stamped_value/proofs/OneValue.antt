-- A value of one machine type is one machine value, and two such values are a pair.
use Rattle.std.proofs.Common.{◌≡◌, T, List, [], ◌∷◌, refl, Bool, true, false, ◌&&◌}
use mir.Syntax.{Ty, ty_struct, tcons, tnil}
use mir.Val.{Val, has_ty, WT}
use denote.Laws.{Typed}
use Rattle.atomic_table.proofs.Fields.{pair_of}

pub one_value : (τ : Ty) (vs : List Val) → Typed (τ ∷ []) vs → (v : Val) × (vs ≡ v ∷ []) × (T (has_ty τ v) × WT v)
one_value τ [] t = absurd t
one_value τ (v ∷ []) t = (v, refl, t.0)
one_value τ (v ∷ u ∷ us) t = absurd t.1

both_hold : (a b : Bool) → T a → T b → T (a && b)
both_hold true b x y = y
both_hold false b x y = absurd x

pub pair_good : (τ σ : Ty) (v w : Val) → T (has_ty τ v) × WT v → T (has_ty σ w) × WT w →
    T (has_ty (ty_struct [] (tcons τ (tcons σ tnil))) (pair_of v w)) × WT (pair_of v w)
pair_good τ σ v w x y =
    (both_hold (has_ty τ v) (has_ty σ w && true) x.0 (both_hold (has_ty σ w) true y.0 tt), (x.1, (y.1, tt)))
