-- The text of a list, written one item at a time.
use Rattle.std.proofs.Common.{◌≡◌, ◌∙◌, ℕ, ◌+◌, List, ◌∷◌, ◌++◌, Bool, true, map, drop, sym, ap, append_assoc, arith}
use Rattle.std.specs.Prelude.{nat_lt}
use Rattle.std.proofs.lemmas.Bool.{lt-ltb}
use Rattle.serde_json.specs.Data.{Data}
use Rattle.serde_json.specs.Written.{comma_if, compact_text, items_text}
use Rattle.serde_json.specs.View.{items_of}

-- what is still to write after i of them, with the closing bracket
abbrev pub items_left : {T : Type 0} → (T → Data) → ℕ → List T → List ℕ
items_left write i xs = items_text (nat_lt 0 i) (items_of (map write (drop i xs)))

-- item i was written before the others
pub next_written : {T : Type 0} (write : T → Data) (x : T) (ys : List T) (i : ℕ) (text mid next whole : List ℕ) →
    mid ≡ text ++ comma_if (nat_lt 0 i) → next ≡ mid ++ compact_text (write x) →
    text ++ items_text (nat_lt 0 i) (items_of (map write (x ∷ ys))) ≡ whole →
    next ++ items_text (nat_lt 0 (i + 1)) (items_of (map write ys)) ≡ whole
next_written {T} write x ys i text mid next whole comma piece before =
    let item = compact_text (write x) in
    let later = items_text true (items_of (map write ys)) in
    ap (λ (b : Bool). next ++ items_text b (items_of (map write ys))) (lt-ltb 0 (i + 1) (omega arith))
    ∙ ap (λ (t : List ℕ). t ++ later) piece
    ∙ append_assoc mid item later
    ∙ ap (λ (t : List ℕ). t ++ (item ++ later)) comma
    ∙ append_assoc text (comma_if (nat_lt 0 i)) (item ++ later)
    ∙ before

-- one item more was written, and is no longer to write
pub item_written : {T : Type 0} (write : T → Data) (xs : List T) (i : ℕ) (x : T) (text mid next whole : List ℕ) →
    drop i xs ≡ x ∷ drop (i + 1) xs → mid ≡ text ++ comma_if (nat_lt 0 i) → next ≡ mid ++ compact_text (write x) →
    text ++ items_left write i xs ≡ whole → next ++ items_left write (i + 1) xs ≡ whole
item_written {T} write xs i x text mid next whole at comma piece before =
    next_written write x (drop (i + 1) xs) i text mid next whole comma piece
    (ap (λ (ys : List T). text ++ items_text (nat_lt 0 i) (items_of (map write ys))) (sym at) ∙ before)
