-- Lists of another length than a script's call or its stamp.
use Rattle.std.proofs.Common.{◌≡◌, ◌≤◌, ◌<◌, List, [], ◌∷◌, length, None, refl, arith}
use Rattle.serde_json.specs.View.{items_view}
use Rattle.serde_json.specs.declared.value.Value.{Value}
use Rattle.stamp_history.specs.ScriptCallValue.{stamp_of_call, listed_call}

pub stamp_short : (vs : List Value) → length vs < 2 → None ≡ stamp_of_call (items_view vs)
stamp_short [] h = refl
stamp_short (a ∷ []) h = refl
stamp_short (a ∷ b ∷ vs) h = absurd (omega arith)

pub stamp_long : (vs : List Value) → 3 ≤ length vs → None ≡ stamp_of_call (items_view vs)
stamp_long [] h = absurd (omega arith)
stamp_long (a ∷ []) h = absurd (omega arith)
stamp_long (a ∷ b ∷ []) h = absurd (omega arith)
stamp_long (a ∷ b ∷ c ∷ vs) h = refl

pub listed_call_none : (vs : List Value) → length vs < 1 → None ≡ listed_call (items_view vs)
listed_call_none [] h = refl
listed_call_none (a ∷ vs) h = absurd (omega arith)

pub listed_call_long : (vs : List Value) → 4 ≤ length vs → None ≡ listed_call (items_view vs)
listed_call_long [] h = absurd (omega arith)
listed_call_long (a ∷ []) h = absurd (omega arith)
listed_call_long (a ∷ b ∷ []) h = absurd (omega arith)
listed_call_long (a ∷ b ∷ c ∷ []) h = absurd (omega arith)
listed_call_long (a ∷ b ∷ c ∷ d ∷ vs) h = refl
