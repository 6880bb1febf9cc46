-- One more entry of a linearized history.
use Rattle.std.proofs.Common.{◌≡◌, ◌⊎◌, ℕ, ◌+◌, ◌-◌, ◌<◌, ◌≤◌, List, [], ◌∷◌, ◌++◌, length, get_or}
use Rattle.std.proofs.Common.{refl, sym, ◌∙◌, ap, subst, inl, inr, arith, length-append}
use Rattle.std.specs.List.{All, AllPairs, AllAdjacentBelow}
use Rattle.std.proofs.lemmas.List.{get_or_append_left, map-append}
use Rattle.std.proofs.lemmas.List.Elements.{All-push}
use Rattle.std.proofs.lemmas.List.Quantifiers.{all_pairs_push}
use Rattle.std.proofs.Math.Seq.{get_or-append_seam}
use Rattle.stamp_core.specs.LockEvent.{LockEvent}
use Rattle.stamp_core.specs.Limits.{Bounds}
use Rattle.stamp_core.specs.Transition.{transition}
use Rattle.stamp_core.specs.History.{History, appended_by, IsReply, IsLegal, IsLegalFrom}
use Rattle.stamp_core.specs.History.{content_from, events_from, events_of, content_after}
use Rattle.stamp_core.specs.Content.{zeros, content_next}
use Rattle.stamp_core.specs.Laws.{LinearizedByEntries}
use Rattle.stamp_core.specs.Linearized.{history_of, HasPointInside, KeepsThreadOrder, AreLinearized, MayFollow}
use Rattle.stamp_core.specs.declared.entry.Entry.{Entry}
use Rattle.stamp_core.specs.declared.call.Call.{Call}
use Rattle.stamp_core.specs.declared.reply.Reply.{Reply}
use Rattle.stamp_core.proofs.StampValidity.{legal_first, legal_rest, events_from-append}

pub content_from-append : (content : List ℕ) (xs ys : History) → content_from content (xs ++ ys) ≡
    content_from (content_from content xs) ys
content_from-append content [] ys = refl
content_from-append content (x ∷ xs) ys = content_from-append (content_next content x.0 x.1) xs ys

pub legal_more : (limits : Bounds) (events : List LockEvent) (content : List ℕ) (xs : History) (e : Call × Reply) →
    IsLegalFrom limits events content xs → IsReply limits (events_from limits events xs)
    (content_from content xs) e.0 e.1 → IsLegalFrom limits events content (xs ++ e ∷ [])
legal_more limits events content [] e legal answered = (answered, tt)
legal_more limits events content (x ∷ xs) e legal answered = (
  legal.0,
  legal_more limits (events ++ appended_by (transition limits events x.0))
      (content_next content x.0 x.1) xs e legal.1 answered,
)

-- lists that are joined
longer : {X : Type 0} (xs ys : List X) (k : ℕ) → k < length xs → k < length (xs ++ ys)
longer xs ys k lt = omega (arith, length-append xs ys)

all_first : {X : Type 0} (P : X → Type 0) (xs ys : List X) → All P (xs ++ ys) → All P xs
all_first P xs ys all k d lt = subst P (get_or_append_left xs ys d k lt) (all k d (longer xs ys k lt))

related : {X : Type 0} (R : X → X → Type 0) (a b c d : X) → a ≡ c → b ≡ d → R a b → R c d
related R a b c d e f r = subst (λ (y : _). R c y) f (subst (λ (x : _). R x b) e r)

adjacent_first : {X : Type 0} (R : X → X → Type 0) (xs ys : List X) →
    AllAdjacentBelow R (xs ++ ys) (length (xs ++ ys)) → AllAdjacentBelow R xs (length xs)
adjacent_first R xs ys all k d lt =
    let before : k < length xs = omega arith in
    related R _ _ _ _ (get_or_append_left xs ys d k before) (get_or_append_left xs ys d (k + 1) lt)
    (all k d (longer xs ys (k + 1) lt))

pairs_first : {X : Type 0} (R : X → X → Type 0) (xs ys : List X) → AllPairs R (xs ++ ys) → AllPairs R xs
pairs_first R xs ys all i j d lt within =
    let before : i < length xs = omega arith in
    related R _ _ _ _ (get_or_append_left xs ys d i before) (get_or_append_left xs ys d j within)
    (all i j d lt (longer xs ys j within))

adjacent_push : {X : Type 0} (R : X → X → Type 0) (xs : List X) (y : X) → AllAdjacentBelow R xs (length xs) →
    ((d : X) → 0 < length xs → R (get_or xs (length xs - 1) d) y) →
    AllAdjacentBelow R (xs ++ y ∷ []) (length (xs ++ y ∷ []))
adjacent_push {X} R xs y all last k d lt = by (either (k + 1) (length xs))
  where
    either : (n m : ℕ) → (n < m) ⊎ (m ≤ n)
    either n m = grind arith

    by : (k + 1 < length xs) ⊎ (length xs ≤ k + 1) → R (get_or (xs ++ y ∷ []) k d) (get_or (xs ++ y ∷ []) (k + 1) d)
    by (inl more) =
        let before : k < length xs = omega arith in
        related R _ _ _ _ (sym (get_or_append_left xs (y ∷ []) d k before))
        (sym (get_or_append_left xs (y ∷ []) d (k + 1) more)) (all k d more)
    by (inr end) =
        let n : k + 1 ≡ length xs = omega (arith, length-append xs (y ∷ [])) in
        let before : k < length xs = omega arith in
        let m : length xs - 1 ≡ k = omega arith in
        let a : get_or xs (length xs - 1) d ≡ get_or (xs ++ y ∷ []) k d = ap (λ (i : ℕ). get_or xs i d) m ∙
        sym (get_or_append_left xs (y ∷ []) d k before) in
        let b : y ≡ get_or (xs ++ y ∷ []) (k + 1) d = sym (get_or-append_seam xs y [] d) ∙
        ap (λ (i : ℕ). get_or (xs ++ y ∷ []) i d) (sym n) in
        related R _ _ _ _ a b (last d (omega arith))

-- the histories
history_append : (xs ys : List Entry) → history_of (xs ++ ys) ≡ history_of xs ++ history_of ys
history_append xs ys = map-append (λ (e : Entry). (e.call, e.reply)) xs ys

pub events_push : (limits : Bounds) (xs : List Entry) (e : Entry) → events_of limits (history_of (xs ++ e ∷ [])) ≡
    events_of limits (history_of xs) ++ appended_by (transition limits (events_of limits (history_of xs)) e.call)
events_push limits xs e = ap (λ (h : History). events_of limits h) (history_append xs (e ∷ [])) ∙
    events_from-append limits [] (history_of xs) ((e.call, e.reply) ∷ [])

pub content_push : (width : ℕ) (xs : List Entry) (e : Entry) → content_after width (history_of (xs ++ e ∷ [])) ≡
    content_next (content_after width (history_of xs)) e.call e.reply
content_push width xs e = ap (λ (h : History). content_after width h) (history_append xs (e ∷ [])) ∙
    content_from-append (zeros width) (history_of xs) ((e.call, e.reply) ∷ [])

-- what comes first of a linearized history is linearized
pub linearized_first : (limits : Bounds) (width : ℕ) (xs ys : List Entry) → AreLinearized limits width (xs ++ ys) →
    AreLinearized limits width xs
linearized_first limits width xs ys all = record {
  within = all_first HasPointInside xs ys all.within;
  rising = adjacent_first (λ (e f : Entry). e.point < f.point) xs ys all.rising;
  apart = pairs_first KeepsThreadOrder xs ys all.apart;
  legal = legal_first limits [] (zeros width) (history_of xs) (history_of ys)
      (subst (λ (h : History). IsLegal limits width h) (history_append xs ys) all.legal);
}

-- each entry of one may follow those before it
pub linearized_fits : (limits : Bounds) (width : ℕ) (before after : List Entry) (e : Entry) →
    AreLinearized limits width (before ++ e ∷ after) → MayFollow limits width before e
linearized_fits limits width before after e all =
    let whole = before ++ e ∷ after in
    let size : length before < length whole = omega (arith, length-append before (e ∷ after)) in
    record {
      within = subst HasPointInside (get_or-append_seam before e after e) (all.within (length before) e size);
      rises = λ d some.
          let n : length before - 1 + 1 ≡ length before = omega arith in
          let lt : length before - 1 + 1 < length whole = omega arith in
          let in_before : length before - 1 < length before = omega arith in
          related (λ (x y : Entry). x.point < y.point) _ _ _ _
          (get_or_append_left before (e ∷ after) d (length before - 1) in_before)
          (ap (λ (i : ℕ). get_or whole i d) n ∙ get_or-append_seam before e after d)
          (all.rising (length before - 1) d lt);
      follows = λ k d lt. related KeepsThreadOrder _ _ _ _ (get_or_append_left before (e ∷ after) d k lt)
          (get_or-append_seam before e after d) (all.apart k (length before) d lt size);
      answered = (legal_rest limits [] (zeros width) (history_of before) (history_of (e ∷ after))
          (subst (λ (h : History). IsLegal limits width h) (history_append before (e ∷ after)) all.legal)).0;
    }

pub linearized_more : (limits : Bounds) (width : ℕ) (before : List Entry) (e : Entry) →
    AreLinearized limits width before → MayFollow limits width before e → AreLinearized limits width (before ++ e ∷ [])
linearized_more limits width before e all fits = record {
  within = All-push HasPointInside before e all.within fits.within;
  rising = adjacent_push (λ (x y : Entry). x.point < y.point) before e all.rising fits.rises;
  apart = all_pairs_push KeepsThreadOrder before e all.apart fits.follows;
  legal = subst (λ (h : History). IsLegal limits width h) (sym (history_append before (e ∷ [])))
      (legal_more limits [] (zeros width) (history_of before) (e.call, e.reply) all.legal fits.answered);
}

pub linearized_none : (limits : Bounds) (width : ℕ) → AreLinearized limits width []
linearized_none limits width = record {
  within = λ k d lt. absurd (omega arith);
  rising = λ k d lt. absurd (omega arith);
  apart = λ i j d lt within. absurd (omega arith);
  legal = tt;
}

pub linearized_by_entries : LinearizedByEntries
linearized_by_entries limits width before e = (
  λ all. (linearized_first limits width before (e ∷ []) all, linearized_fits limits width before [] e all),
  λ parts. linearized_more limits width before e parts.0 parts.1,
)
