-- Whole numbers, read one after the other into sixteen places.
use Rattle.std.proofs.Common.{suc, ◌≡◌, ◌↔◌, ◌≤◌, ◌<◌, ℕ, ◌+◌, List, [], ◌∷◌, ◌++◌, length, take}
use Rattle.std.proofs.Common.{drop, set, refl, sym, ◌∙◌, ap, arith, append_assoc, Bool, true, false}
use Rattle.std.proofs.Common.{Option, Some, None, IsSome, IfSome, option_map, option_and_then}
use Rattle.std.specs.Prelude.{◌&&◌, nat_le, if◌then◌else◌}
use Rattle.std.proofs.lemmas.Bool.Decides.{nat_tests}
use Rattle.std.proofs.lemmas.List.{take_more_set, append-nil}
use Rattle.serde_json.specs.View.{view, items_view}
use Rattle.serde_json.specs.declared.value.Value.{Value}
use Rattle.stamp_history.specs.JsonValue.{whole}
use Rattle.stamp_history.specs.WordsValue.{numbers, as_words, listed_words}

-- what was read before, and what is still read
abbrev pub with_numbers : List ℕ → Option (List ℕ) → Option (List ℕ)
with_numbers front rest = option_map (λ later. front ++ later) rest

-- there are as many numbers as items
numbers_len : (vs : List Value) (ns : List ℕ) → numbers (items_view vs) ≡ Some ns → length ns ≡ length vs
numbers_len [] ns e = let none : [] ≡ ns = cc in sym (ap length none)
numbers_len (v ∷ vs) ns e = by (whole (view v)) (numbers (items_view vs)) (numbers_len vs) e
  where
    by : (first : Option ℕ) (later : Option (List ℕ)) → ((ms : List ℕ) → later ≡ Some ms → length ms ≡ length vs) →
        option_and_then (λ n. option_map (λ ms. n ∷ ms) later) first ≡ Some ns → length ns ≡ suc (length vs)
    by None later len e = cc
    by (Some n) None len e = cc
    by (Some n) (Some ms) len e = let all : n ∷ ms ≡ ns = cc in sym (ap length all) ∙ ap suc (len ms refl)

not_words : (ns : List ℕ) → 17 ≤ length ns → (nat_le 1 (length ns) && nat_le (length ns) 16) ≡ false
not_words ns long = grind (arith, nat_tests)

pub too_many : (vs : List Value) → 17 ≤ length vs → None ≡ listed_words (items_view vs)
too_many vs long = by (numbers (items_view vs)) (numbers_len vs)
  where
    by : (found : Option (List ℕ)) → ((ns : List ℕ) → found ≡ Some ns → length ns ≡ length vs) → None ≡
        option_and_then as_words found
    by None len = refl
    by (Some ns) len = let n = len ns refl in rw (not_words ns (omega arith)) refl

one_more : (front : List ℕ) (n : ℕ) (rest : Option (List ℕ)) → with_numbers (front ++ n ∷ []) rest ≡
    with_numbers front (option_map (λ ms. n ∷ ms) rest)
one_more front n None = refl
one_more front n (Some ms) = ap Some (append_assoc front (n ∷ []) ms)

-- a number was read into its place
pub more : (vs : List Value) (i : ℕ) (held : List ℕ) (v : Value) (n : ℕ) → i < length held → drop i vs ≡ v ∷
    drop (i + 1) vs → whole (view v) ≡ Some n → with_numbers (take i held) (numbers (items_view (drop i vs))) ≡
    numbers (items_view vs) → with_numbers (take (i + 1) (set held i n)) (numbers (items_view (drop (i + 1) vs))) ≡
    numbers (items_view vs)
more vs i held v n lt at is before =
    ap (λ (front : List ℕ). with_numbers front (numbers (items_view (drop (i + 1) vs)))) (take_more_set held i n lt)
    ∙ one_more (take i held) n (numbers (items_view (drop (i + 1) vs)))
    ∙ ap (λ (w : Option ℕ). with_numbers (take i held)
    (option_and_then (λ m. option_map (λ ms. m ∷ ms) (numbers (items_view (drop (i + 1) vs)))) w)) (sym is)
    ∙ ap (λ (us : List Value). with_numbers (take i held) (numbers (items_view us))) (sym at)
    ∙ before

-- an item is no whole number
pub none : (vs : List Value) (i : ℕ) (held : List ℕ) (v : Value) → drop i vs ≡ v ∷ drop (i + 1) vs →
    whole (view v) ≡ None → with_numbers (take i held) (numbers (items_view (drop i vs))) ≡
    numbers (items_view vs) → None ≡ listed_words (items_view vs)
none vs i held v at is before =
    ap (λ (w : Option ℕ). option_and_then as_words
    (with_numbers (take i held) (option_and_then
    (λ m. option_map (λ ms. m ∷ ms) (numbers (items_view (drop (i + 1) vs)))) w))) (sym is)
    ∙ ap (λ (us : List Value). option_and_then as_words (with_numbers (take i held) (numbers (items_view us))))
    (sym at)
    ∙ ap (λ (found : Option (List ℕ)). option_and_then as_words found) before

made_of : (made : Option (List ℕ)) (ns : List ℕ) (b : Bool) → (nat_le 1 (length ns) && nat_le (length ns) 16) ≡ b →
    IsSome made ↔ ((1 ≤ length ns) × (length ns ≤ 16)) → IfSome made (λ m. m ≡ ns) → made ≡
    (if b then Some ns else None)
made_of None ns true e some same = let yes : IsSome {T = List ℕ} None =
    some.1 (grind (arith, nat_tests), grind (arith, nat_tests)) in cc
made_of None ns false e some same = refl
made_of (Some m) ns true e some same = ap Some same
made_of (Some m) ns false e some same = let s = some.0 refl in absurd (grind (arith, nat_tests))

-- all were read, and the words are made of them
pub all : (vs : List Value) (i : ℕ) (held ns : List ℕ) (made : Option (List ℕ)) → drop i vs ≡ [] → ns ≡
    take i held → IsSome made ↔ ((1 ≤ length ns) × (length ns ≤ 16)) → IfSome made (λ m. m ≡ ns) →
    with_numbers (take i held) (numbers (items_view (drop i vs))) ≡ numbers (items_view vs) → made ≡
    listed_words (items_view vs)
all vs i held ns made end is some same before =
    made_of made ns (nat_le 1 (length ns) && nat_le (length ns) 16) refl some same
    ∙ ap as_words (is ∙ sym (append-nil (take i held)))
    ∙ ap (λ (us : List Value). option_and_then as_words (with_numbers (take i held) (numbers (items_view us))))
    (sym end)
    ∙ ap (λ (found : Option (List ℕ)). option_and_then as_words found) before
