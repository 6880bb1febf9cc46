-- A history with another reply of one call.
use Rattle.std.proofs.Common.{◌≡◌, ◌≢◌, ◌⊎◌, ℕ, ◌+◌, ◌<◌, ◌≤◌, List, length, get_or, set, refl, sym, ◌∙◌, ap, subst}
use Rattle.std.proofs.Common.{inl, inr, arith, Option, None, Some}
use Rattle.std.specs.Prelude.{slice_get, MatchOption, IsTrue}
use Rattle.std.proofs.lemmas.List.{get_or-set_same, get_or-set_other, length-set}
use Rattle.std.proofs.lemmas.Option.{none-some, same_Some, slice_get_within, slice_get_read}
use Rattle.std.proofs.lemmas.Option.{get_or_from_slice_get}
use Rattle.std.proofs.lemmas.Bool.{cases_eq}
use Rattle.stamp_core.specs.Call.{call_suits}
use Rattle.stamp_core.specs.declared.call.Call.{Call}
use Rattle.stamp_core.specs.declared.reply.Reply.{Reply}
use Rattle.stamp_explain.specs.declared.observed.Observation.{Observation}
use Rattle.stamp_explain.specs.declared.observed.Returned.{Returned}
use Rattle.stamp_explain.specs.Observed.{ObservedHistory, IsObserved, IsInterval, IsBefore, DoNotOverlap, IsReturnAt}
use Rattle.stamp_explain.specs.Explained.{IsExplained}
use Rattle.stamp_explain.specs.Cut.{cut_after, seen_at}
use Rattle.stamp_explain.specs.Possible.{IsPossible, returned_with, with_reply}
use Rattle.stamp_explain.proofs.Seeing.{seen_explains_as_much}

-- they returned at one position, or neither did
unfoldable pub IsAlikeBy : Option Returned → Option Returned → Type 0
IsAlikeBy None None = Unit {0}
IsAlikeBy None (Some q) = ⊥
IsAlikeBy (Some r) None = ⊥
IsAlikeBy (Some r) (Some q) = q.last ≡ r.last

-- the second is the first but for its reply
pub record IsAlike (e k : Observation) : Type 0 where
  pub thread : k.thread ≡ e.thread
  pub call : k.call ≡ e.call
  pub first : k.first ≡ e.first
  pub returned : IsAlikeBy e.returned k.returned

pub alike_self : (e : Observation) → IsAlike e e
unfolding IsAlikeBy
alike_self e = record { thread = refl; call = refl; first = refl; returned = by e.returned }
  where
    by : (o : Option Returned) → IsAlikeBy o o
    by None = tt
    by (Some r) = refl

pub alike_answering : {e : Observation} (r : Returned) (reply : Reply) → e.returned ≡ Some r →
    IsAlike e (returned_with e r reply)
unfolding IsAlikeBy
alike_answering r reply at = record {
  thread = refl;
  call = refl;
  first = refl;
  returned = subst (λ (o : Option Returned). IsAlikeBy o (Some (record r { reply = reply }))) (sym at) refl;
}

alike_interval : {e k : Observation} → IsAlike e k → IsInterval e → IsInterval k
unfolding IsAlikeBy
alike_interval {e} {k} alike is = by e.returned k.returned alike.returned is
  where
    by : (o p : Option Returned) → IsAlikeBy o p → MatchOption o (Unit {0}) (λ (r : Returned). e.first ≤ r.last) →
        MatchOption p (Unit {0}) (λ (r : Returned). k.first ≤ r.last)
    by None None same h = tt
    by None (Some q) same h = absurd same
    by (Some r) None same h = absurd same
    by (Some r) (Some q) same h = omega (arith, same, h, alike.first)

pub alike_before : {a b e k : Observation} → IsAlike a e → IsAlike b k → IsBefore a b → IsBefore e k
unfolding IsAlikeBy
alike_before {a} {b} {e} {k} alike other is = by a.returned e.returned alike.returned is
  where
    by : (o p : Option Returned) → IsAlikeBy o p → MatchOption o ⊥ (λ (r : Returned). r.last < b.first) →
        MatchOption p ⊥ (λ (r : Returned). r.last < k.first)
    by None p same h = absurd h
    by (Some r) None same h = absurd same
    by (Some r) (Some q) same h = omega (arith, same, h, other.first)

alike_apart : {a b e k : Observation} → IsAlike a e → IsAlike b k → DoNotOverlap a b → DoNotOverlap e k
alike_apart {a} {b} {e} {k} alike other apart same = by (apart (sym alike.thread ∙ same ∙ other.thread))
  where
    by : IsBefore a b ⊎ IsBefore b a → IsBefore e k ⊎ IsBefore k e
    by (inl before) = inl (alike_before alike other before)
    by (inr before) = inr (alike_before other alike before)

-- at each index the entries are alike
pub each_alike : (es : List Observation) (i : ℕ) {e y : Observation} → slice_get es i ≡ Some e → IsAlike e y →
    (k : ℕ) (d : Observation) → IsAlike (get_or es k d) (get_or (set es i y) k d)
each_alike es i {e} {y} at alike k d = by (cases_eq k i)
  where
    within : i < length es
    within = slice_get_within es i e at

    by : (k ≡ i) ⊎ (k ≢ i) → IsAlike (get_or es k d) (get_or (set es i y) k d)
    by (inl same) = subst (λ (n : ℕ). IsAlike (get_or es n d) (get_or (set es i y) n d)) (sym same)
        (subst (λ (o : Observation). IsAlike o (get_or (set es i y) i d)) (sym (get_or_from_slice_get es i e d at))
        (subst (λ (o : Observation). IsAlike e o) (sym (get_or-set_same es i y d within)) alike))
    by (inr other) = subst (λ (o : Observation). IsAlike (get_or es k d) o) (sym (get_or-set_other es i k y d other))
        (alike_self (get_or es k d))

-- what may be observed may be with another reply
pub replied_is_observed : {h : ObservedHistory} (i : ℕ) (e : Observation) (r : Returned) (reply : Reply) →
    slice_get h.entries i ≡ Some e → e.returned ≡ Some r → IsObserved h → IsObserved (with_reply i e r reply h)
replied_is_observed {h} i e r reply at returned is = record {
  intervals = λ k d lt. alike_interval (alike k d) (is.intervals k d (lower k lt));
  apart = λ k j d lt within. alike_apart (alike k d) (alike j d) (is.apart k j d lt (lower j within));
  threads = λ k d lt. subst (λ (n : ℕ). n < 64) (sym (alike k d).thread) (is.threads k d (lower k lt));
  suit = λ k d lt. subst (λ (c : Call). IsTrue (call_suits h.width c)) (sym (alike k d).call)
      (is.suit k d (lower k lt));
}
  where
    y : Observation
    y = returned_with e r reply

    now : ℕ → Observation → Observation
    now k d = get_or (set h.entries i y) k d

    alike : (k : ℕ) (d : Observation) → IsAlike (get_or h.entries k d) (get_or (set h.entries i y) k d)
    alike k d = each_alike h.entries i at (alike_answering r reply returned) k d

    lower : (k : ℕ) → k < length (set h.entries i y) → k < length h.entries
    lower k lt = subst (λ (n : ℕ). k < n) (length-set h.entries i y) lt

-- a reply is possible exactly where what is seen then is explained
pub seen_is_possible : {h : ObservedHistory} {i : ℕ} (e : Observation) (r : Returned) {reply : Reply} →
    slice_get h.entries i ≡ Some e → e.returned ≡ Some r → IsObserved h → IsExplained
    (seen_at r.last (i + 1) (with_reply i e r reply h)) → IsPossible h i reply
seen_is_possible {h} {i} e r {reply} at returned is seen = record {
  at = record { entry = e; return = r; is_entry = at; returned = returned };
  explained = (seen_explains_as_much (with_reply i e r reply h) r.last (i + 1)
      (replied_is_observed i e r reply at returned is)).1.1 seen;
}

pub possible_is_seen : {h : ObservedHistory} {i : ℕ} (e : Observation) (r : Returned) {reply : Reply} →
    slice_get h.entries i ≡ Some e → e.returned ≡ Some r → IsObserved h → IsPossible h i reply →
    IsExplained (seen_at r.last (i + 1) (with_reply i e r reply h))
possible_is_seen {h} {i} e r {reply} at returned is possible =
    (seen_explains_as_much (with_reply i e r reply h) r.last (i + 1) (replied_is_observed i e r reply at returned
    is)).1.0 (subst (λ (q : Returned). IsExplained (cut_after q i (with_reply i e q reply h))) same_return
    (subst (λ (o : Observation). IsExplained (cut_after own.return i (with_reply i o own.return reply h))) same_entry
    possible.explained))
  where
    own : IsReturnAt h.entries i
    own = possible.at

    same_entry : own.entry ≡ e
    same_entry = same_Some own.entry e (sym own.is_entry ∙ at)

    same_return : own.return ≡ r
    same_return = same_Some own.return r (sym own.returned ∙ ap (λ (o : Observation). o.returned) same_entry ∙
        returned)

-- the entry that is read
pub read_at : (h : ObservedHistory) {i : ℕ} (e : Observation) (read : List Observation) → IsReturnAt h.entries i →
    e ≡ get_or read i e → read ≡ h.entries → slice_get h.entries i ≡ Some e
read_at h {i} e read is entry same = slice_get_read h.entries (length h.entries) i e refl
    (slice_get_within h.entries i is.entry is.is_entry) (entry ∙ ap (λ (es : List Observation). get_or es i e) same)

-- whether a call that has returned is read
pub return_here : {es : List Observation} (read : List Observation) {i : ℕ} (o : Observation) (r : Returned) →
    read ≡ es → slice_get read i ≡ Some o → o.returned ≡ Some r → IsReturnAt es i
return_here read {i} o r same at is = record {
  entry = o;
  return = r;
  is_entry = subst (λ (xs : List Observation). slice_get xs i ≡ Some o) same at;
  returned = is;
}

pub no_return_here : (es read : List Observation) (i : ℕ) (o : Observation) → read ≡ es → slice_get read i ≡ Some o →
    o.returned ≡ None → ¬ IsReturnAt es i
no_return_here es read i o same at none is =
    let e : is.entry ≡ o = same_Some is.entry o (sym is.is_entry ∙ ap (λ (xs : List Observation). slice_get xs i)
    (sym same) ∙ at) in
    none-some is.return (sym none ∙ ap (λ (x : Observation). x.returned) (sym e) ∙ is.returned)

pub no_entry_here : (es read : List Observation) (i : ℕ) → read ≡ es → slice_get read i ≡ None → ¬ IsReturnAt es i
no_entry_here es read i same none is = none-some is.entry (sym none ∙ ap (λ (xs : List Observation). slice_get xs i)
    same ∙ is.is_entry)
