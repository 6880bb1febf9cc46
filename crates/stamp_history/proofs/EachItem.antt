-- Reading items one after the other, as a loop does.
use Rattle.std.proofs.Common.{◌≡◌, ◌<◌, ◌∙◌, ℕ, ◌+◌, List, [], ◌∷◌, ◌++◌, Option, Some, None, Result, Ok}
use Rattle.std.proofs.Common.{Err, length, get_or, drop, refl, ap, sym, subst, append_assoc}
use Rattle.std.specs.List.{All}
use Rattle.std.proofs.lemmas.List.Elements.{All-nil, All-cons, All-append}
use Rattle.stamp_history.specs.declared.read_error.ReadError.{ReadError}
use Rattle.serde_json.specs.Data.{Data, Items, item}
use Rattle.serde_json.specs.View.{view, items_view}
use Rattle.serde_json.specs.declared.value.Value.{Value}
use Rattle.stamp_core.specs.declared.call.Call.{Call}
use Rattle.stamp_history.specs.declared.field.Field.TheVariants as part
use Rattle.stamp_history.specs.declared.read_error.ReadError.TheVariants.{NotScript}
use Rattle.stamp_history.specs.LockCall.{lock_call}
use Rattle.stamp_history.specs.JsonReading.{◌>>=◌, each, kind}
use Rattle.stamp_history.specs.ReplayFields.{call_at}
use Rattle.stamp_history.proofs.ItemByItem.{next_left}

-- what was read before, and what is still read
abbrev pub with_front : {A : Type 0} → List A → Result (List A) ReadError → Result (List A) ReadError
with_front front reading = reading >>= λ later. Ok (front ++ later)

-- one item more was read, and is no longer to read
pub front_more : {A : Type 0} (one : ℕ → Data → Result A ReadError) (front next : List A) (i : ℕ) (d : Data)
    (ds : Items) (x : A) (whole : Result (List A) ReadError) → one i d ≡ Ok x → next ≡ front ++ x ∷ [] →
    with_front front (each one i (item d ds)) ≡ whole → with_front next (each one (i + 1) ds) ≡ whole
front_more {A} one front next i d ds x whole read pushed before =
    subst (λ (ys : List A). with_front ys (each one (i + 1) ds) ≡ whole) (sym pushed)
    (moved (each one (i + 1) ds) ∙ sym (ap (λ (r : Result A ReadError). with_front front
    (r >>= λ y. each one (i + 1) ds >>= λ later. Ok (y ∷ later))) read) ∙ before)
  where
    moved : (later : Result (List A) ReadError) → with_front (front ++ x ∷ []) later ≡
        with_front front (later >>= λ ys. Ok (x ∷ ys))
    moved (Ok ys) = ap Ok (append_assoc front (x ∷ []) ys)
    moved (Err e) = refl

-- the values before value i were read, and these are what they gave
abbrev pub IsReadTo : {A : Type 0} → (ℕ → Data → Result A ReadError) → List Value → ℕ → List A → Type 0
IsReadTo one list i front = with_front front (each one i (items_view (drop i list))) ≡ each one 0 (items_view list)

-- one value more was read
pub read_more : {A : Type 0} (one : ℕ → Data → Result A ReadError) (list : List Value) (i : ℕ) (value : Value)
    (front next : List A) (x : A) → i < length list → value ≡ get_or list i value → Ok x ≡ one i (view value) → next ≡
    front ++ x ∷ [] → IsReadTo one list i front → IsReadTo one list (i + 1) next
read_more one list i value front next x lt here read pushed before =
    front_more one front next i (view value) (items_view (drop (i + 1) list)) x (each one 0 (items_view list))
    (sym read) pushed
    (subst (λ vs. with_front front (each one i (items_view vs)) ≡ each one 0 (items_view list))
    (next_left list i value value lt here) before)

-- what holds of each, and of one more
pub All-pushed : {A : Type 0} (P : A → Type 0) (xs : List A) (x : A) (ys : List A) → ys ≡ xs ++ x ∷ [] → All P xs →
    P x → All P ys
All-pushed P xs x ys is before one = subst (All P) (sym is)
    (All-append P xs (x ∷ []) before (All-cons P x [] one (All-nil P)))

-- what two readings one after the other gave
pub bind_ok : {A B : Type 0} (found : Result A ReadError) (f : A → Result B ReadError) (y : B) → (found >>= f) ≡
    Ok y → (x : A) × (found ≡ Ok x) × (f x ≡ Ok y)
bind_ok (Ok x) f y e = (x, refl, e)
bind_ok (Err z) f y e = cc

-- a call that was found under a field is the one that is there
pub found_call : (i : ℕ) (d : Data) (call : Call) → call_at i d ≡ Ok call → lock_call d ≡ Some call
found_call i d call e = by (lock_call d) e
  where
    by : (found : Option Call) → kind (NotScript (part.Call i)) found ≡ Ok call → found ≡ Some call
    by None e = cc
    by (Some c) e = let same : c ≡ call = cc in ap Some same
