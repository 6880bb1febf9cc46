-- One more call, counted if it overlaps another.
use Rattle.std.proofs.Common.{◌≡◌, ◌<◌, ◌+◌, ℕ, Bool, ◌||◌, nat_le, List, ◌∷◌, length, get_or}
use Rattle.std.proofs.Common.{suc, take, drop, drop-cons, refl, sym, ◌∙◌, ap, arith, Option}
use Rattle.std.specs.Prelude.{if◌then◌else◌}
use Rattle.std.specs.List.{list_any}
use Rattle.std.proofs.lemmas.List.{take_more}
use Rattle.std.proofs.lemmas.List.Folds.{list_any_more}
use Rattle.stamp_core.specs.declared.entry.Entry.{Entry}
use Rattle.stamped_explain.specs.Trials.{overlaps, overlapping, overlapping_after}
use Rattle.stamped_explain.specs.inner.Trials.{is_by, is_until, IsFirstOf, IsLastOf}

counted_more : (xs : List Entry) (i : ℕ) (e : Entry) → i < length xs → overlapping_after (take i xs) (drop i xs) ≡
    (if overlaps (take i xs) (get_or xs i e) (drop (i + 1) xs) then 1 else 0) +
    overlapping_after (take (i + 1) xs) (drop (i + 1) xs)
counted_more xs i e below =
    let next : suc i ≡ i + 1 = omega arith in
    let rest : drop i xs ≡ get_or xs i e ∷ drop (i + 1) xs = drop-cons xs i e below ∙
    ap (λ (k : ℕ). get_or xs i e ∷ drop k xs) next in
    rw (rest, take_more xs i e below) refl

-- whether it does is told by the last position of those before it, and the first of those behind
told : (xs : List Entry) (i : ℕ) (e : Entry) (last first : Option ℕ) → IsLastOf (take i xs) last →
    IsFirstOf (drop (i + 1) xs) first →
    overlaps (take i xs) e (drop (i + 1) xs) ≡ (is_until last e.first || is_by first e.last)
told xs i e last first is_last is_first = rw (is_last e.first, is_first e.last) refl

-- one of them is at this place
pub more : (xs : List Entry) (i count : ℕ) (e : Entry) (last first : Option ℕ) (test : Bool) (added : ℕ) →
    i < length xs → e ≡ get_or xs i e → IsLastOf (take i xs) last → IsFirstOf (drop (i + 1) xs) first →
    count + overlapping_after (take i xs) (drop i xs) ≡ overlapping xs →
    test ≡ (is_until last e.first || is_by first e.last) → added ≡ (if test then 1 else 0) →
    (count + added) + overlapping_after (take (i + 1) xs) (drop (i + 1) xs) ≡ overlapping xs
more xs i count e last first test added below here is_last is_first so_far tested adds =
    let tells : overlaps (take i xs) (get_or xs i e) (drop (i + 1) xs) ≡ test =
    ap (λ (d : Entry). overlaps (take i xs) d (drop (i + 1) xs)) (sym here) ∙
    told xs i e last first is_last is_first ∙ sym tested in
    let one : overlapping_after (take i xs) (drop i xs) ≡
    added + overlapping_after (take (i + 1) xs) (drop (i + 1) xs) = counted_more xs i e below ∙
    ap (λ (b : Bool). (if b then 1 else 0) + overlapping_after (take (i + 1) xs) (drop (i + 1) xs)) tells ∙
    ap (λ (n : ℕ). n + overlapping_after (take (i + 1) xs) (drop (i + 1) xs)) (sym adds) in
    omega (arith, one, so_far)

pub last_more : (xs : List Entry) (i : ℕ) (e : Entry) (last next : Option ℕ) → i < length xs → e ≡ get_or xs i e →
    IsLastOf (take i xs) last → ((at : ℕ) → is_until next at ≡ (is_until last at || nat_le at e.last)) →
    IsLastOf (take (i + 1) xs) next
last_more xs i e last next below here is_last steps at =
    steps at ∙ ap (λ (b : Bool). b || nat_le at e.last) (is_last at) ∙
    ap (λ (d : Entry). list_any (λ (x : Entry). nat_le at x.last) (take i xs) || nat_le at d.last) here ∙
    sym (list_any_more (λ (x : Entry). nat_le at x.last) xs i e below)
