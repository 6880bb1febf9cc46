-- Lists of another length than a pair's.
use Rattle.std.proofs.Common.{◌≡◌, ◌≤◌, ◌<◌, List, [], ◌∷◌, length, None, refl, arith}
use Rattle.serde_json.specs.View.{items_view}
use Rattle.serde_json.specs.declared.value.Value.{Value}
use Rattle.stamp_history.specs.HistoryFields.{listed_pair}

pub pair_short : (vs : List Value) → length vs < 2 → None ≡ listed_pair (items_view vs)
pair_short [] h = refl
pair_short (a ∷ []) h = refl
pair_short (a ∷ b ∷ vs) h = absurd (omega arith)

pub pair_long : (vs : List Value) → 3 ≤ length vs → None ≡ listed_pair (items_view vs)
pair_long [] h = absurd (omega arith)
pair_long (a ∷ []) h = absurd (omega arith)
pair_long (a ∷ b ∷ []) h = absurd (omega arith)
pair_long (a ∷ b ∷ c ∷ vs) h = refl
