-- The last point of entries, and the last position of each thread.
use Rattle.std.proofs.Common.{◌≡◌, ◌≢◌, ◌⊎◌, ℕ, ◌-◌, ◌<◌, ◌≤◌, List, [], ◌∷◌, ◌++◌, length, get_or}
use Rattle.std.proofs.Common.{set, refl, sym, ◌∙◌, ap, subst, inl, inr, arith, length-append}
use Rattle.std.proofs.Common.{Option, Some, None, get_or-set_same, get_or-set_other}
use Rattle.std.proofs.lemmas.List.{get_or_append_left}
use Rattle.std.proofs.lemmas.List.Elements.{All-push}
use Rattle.std.proofs.Math.Seq.{get_or-append_seam}
use Rattle.stamp_core.specs.Linearized.{HasPointInside, RisesAbove, FollowsItsThread}
use Rattle.stamp_core.specs.declared.entry.Entry.{Entry}
use Rattle.stamp_check.specs.inner.Walk.{IsAbove, IsLastPoint, IsLastOf}

-- points
pub above_rises : (before : List Entry) (e : Entry) (p : Option ℕ) → IsLastPoint before p → IsAbove p e.point →
    RisesAbove before e
above_rises before e None last above = λ d some. absurd (omega arith)
above_rises before e (Some p) last above = λ d some. subst (λ (n : ℕ). n < e.point) (sym (last.1 d)) above

pub rises_above : (before : List Entry) (e : Entry) (p : Option ℕ) → IsLastPoint before p → RisesAbove before e →
    IsAbove p e.point
rises_above before e None last rises = tt
rises_above before e (Some p) last rises = subst (λ (n : ℕ). n < e.point) (last.1 e) (rises e last.0)

pub last_point_push : (before : List Entry) (e : Entry) → IsLastPoint (before ++ e ∷ []) (Some e.point)
last_point_push before e =
    let n : length (before ++ e ∷ []) - 1 ≡ length before = omega (arith, length-append before (e ∷ [])) in (
      omega (arith, length-append before (e ∷ [])),
      λ d. ap (λ (x : Entry). x.point) (ap (λ (i : ℕ). get_or (before ++ e ∷ []) i d) n ∙
          get_or-append_seam before e [] d),
    )

-- positions of a thread
pub above_follows : (before : List Entry) (e : Entry) (n : Option ℕ) → IsLastOf before e.thread n →
    IsAbove n e.first → FollowsItsThread before e
above_follows before e None last above = λ k d lt same. absurd (last k d lt same)
above_follows before e (Some n) last above = λ k d lt same. let most = last.0 k d lt same in omega arith

pub follows_above : (before : List Entry) (e : Entry) (n : Option ℕ) → IsLastOf before e.thread n →
    FollowsItsThread before e → IsAbove n e.first
follows_above before e None last follows = tt
follows_above before e (Some n) last follows =
    let some = last.1 in
    subst (λ (m : ℕ). m < e.first) (some.2 e).1 (follows some.0 e some.1 (some.2 e).0)

last_of_other : (before : List Entry) (e : Entry) (thread : ℕ) (n : Option ℕ) → e.thread ≢ thread →
    IsLastOf before thread n → IsLastOf (before ++ e ∷ []) thread n
last_of_other before e thread None other last = All-push (λ (x : Entry). x.thread ≡ thread → ⊥) before e last other
last_of_other before e thread (Some n) other last =
    let some = last.1 in
    let at : (d : Entry) → get_or (before ++ e ∷ []) some.0 d ≡ get_or before some.0 d =
    λ d. get_or_append_left before (e ∷ []) d some.0 some.1 in (
      All-push (λ (x : Entry). x.thread ≡ thread → x.last ≤ n) before e last.0 (λ same. absurd (other same)),
      (
        some.0,
        omega (arith, some.1, length-append before (e ∷ [])),
        λ d. subst (λ (x : Entry). (x.thread ≡ thread) × (x.last ≡ n)) (sym (at d)) (some.2 d),
      ),
    )

last_of_same : (before : List Entry) (e : Entry) → FollowsItsThread before e → HasPointInside e →
    IsLastOf (before ++ e ∷ []) e.thread (Some e.last)
last_of_same before e follows within = (
  All-push (λ (x : Entry). x.thread ≡ e.thread → x.last ≤ e.last) before e
      (λ k d lt same. let f = follows k d lt same in let b = within.begun in let l = within.ended in omega arith)
      (λ _. omega arith),
  (
    length before,
    omega (arith, length-append before (e ∷ [])),
    λ d. subst (λ (x : Entry). (x.thread ≡ e.thread) × (x.last ≡ e.last)) (sym (get_or-append_seam before e [] d))
        (refl, refl),
  ),
)

pub lasts_push : (before : List Entry) (e : Entry) (lasts : List (Option ℕ)) → length lasts ≡ 64 → e.thread < 64 →
    FollowsItsThread before e → HasPointInside e →
    ((thread : ℕ) (d : Option ℕ) → thread < 64 → IsLastOf before thread (get_or lasts thread d)) →
    (thread : ℕ) (d : Option ℕ) → thread < 64 →
    IsLastOf (before ++ e ∷ []) thread (get_or (set lasts e.thread (Some e.last)) thread d)
lasts_push before e lasts size small follows within all thread d few = by (same_or_not e.thread thread)
  where
    same_or_not : (n m : ℕ) → (n ≡ m) ⊎ (n ≢ m)
    same_or_not n m = grind arith

    by : (e.thread ≡ thread) ⊎ (e.thread ≢ thread) →
        IsLastOf (before ++ e ∷ []) thread (get_or (set lasts e.thread (Some e.last)) thread d)
    by (inl same) =
        let in_lasts : e.thread < length lasts = omega arith in
        subst (λ (t : ℕ). IsLastOf (before ++ e ∷ []) t (get_or (set lasts e.thread (Some e.last)) t d)) same
        (subst (λ (n : Option ℕ). IsLastOf (before ++ e ∷ []) e.thread n)
        (sym (get_or-set_same lasts e.thread (Some e.last) d in_lasts)) (last_of_same before e follows within))
    by (inr other) =
        let ne : thread ≢ e.thread = λ h. other (sym h) in
        subst (λ (n : Option ℕ). IsLastOf (before ++ e ∷ []) thread n)
        (sym (get_or-set_other lasts e.thread thread (Some e.last) d ne))
        (last_of_other before e thread (get_or lasts thread d) other (all thread d few))
