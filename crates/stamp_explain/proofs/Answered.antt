-- What is seen when a call has returned, with another reply of it.
use Rattle.std.proofs.Common.{◌≡◌, ℕ, ◌+◌, ◌<◌, ◌≤◌, List, [], ◌∷◌, length, set, refl, sym, ◌∙◌, ap}
use Rattle.std.proofs.Common.{subst, arith, Option, None, Some, Bool, true, false, zero, suc}
use Rattle.std.specs.Prelude.{slice_get, MatchOption, take, cond, not, nat_lt, if◌then◌else◌, ◌==◌, ◌&&◌, ◌||◌}
use Rattle.std.proofs.lemmas.Bool.Decides.{nat_tests}
use Rattle.std.proofs.lemmas.Option.{none-some, same_Some}
use Rattle.stamp_core.specs.declared.reply.Reply.{Reply}
use Rattle.stamp_explain.specs.declared.observed.Observation.{Observation}
use Rattle.stamp_explain.specs.declared.observed.Returned.{Returned}
use Rattle.stamp_explain.specs.Observed.{ObservedHistory, IsObserved, IsInterval}
use Rattle.stamp_explain.specs.Cut.{returned_by, cut_entry, cut_entries, begun_by, seen_at}
use Rattle.stamp_explain.specs.inner.Cut.{index_then}
use Rattle.stamp_explain.specs.Possible.{returned_with}
use Rattle.stamp_explain.specs.Possible.{with_reply}
use Rattle.stamp_explain.proofs.Lists.{at_index}
use Rattle.stamp_explain.proofs.Entries.{is_begun}

-- a call that returned at this position is known so
known_kept : (e : Observation) (r : Returned) (b m : ℕ) → e.returned ≡ Some r → m < b → cut_entry r.last b m e ≡ e
known_kept e r b m at lt = ap (λ (t : Bool). if t then e else record e { returned = None })
    (ap (λ (o : Option Returned). returned_by r.last b m o) at ∙ back)
  where
    back : (nat_lt r.last r.last || ((r.last == r.last) && nat_lt m b)) ≡ true
    back = grind (arith, nat_tests)

first_kept : (last b m : ℕ) (e : Observation) → (cut_entry last b m e).first ≡ e.first
first_kept last b m e = by (returned_by last b m e.returned)
  where
    by : (t : Bool) → (if t then e else record e { returned = None }).first ≡ e.first
    by true = refl
    by false = refl

begun_kept : (last b m : ℕ) (e : Observation) → is_begun last (cut_entry last b m e) ≡ is_begun last e
begun_kept last b m e = ap (λ (n : ℕ). not (nat_lt last n)) (first_kept last b m e)

-- what is listed first, by whether it had begun
abbrev after_first : ℕ → Bool → Observation → List Observation → List Observation
after_first last begun e rest = cond begun (e ∷ begun_by last rest) (begun_by last rest)

-- it stands there
pub seen_index : (last b n : ℕ) (es : List Observation) (i : ℕ) (e : Observation) → slice_get es i ≡ Some e →
    is_begun last e ≡ true → ((m : ℕ) → m ≡ n + i → cut_entry last b m e ≡ e) →
    slice_get (begun_by last (cut_entries last b n es)) (index_then last i es) ≡ Some e
seen_index last b n [] i e at begun known = absurd (none-some e at)
seen_index last b n (x ∷ es) zero e at begun known =
    ap (λ (t : Bool). slice_get (after_first last t (cut_entry last b n x) (cut_entries last b (n + 1) es)) 0)
    (begun_kept last b n x ∙ ap (is_begun last) same ∙ begun) ∙ ap (λ (o : Observation). Some o)
    (ap (cut_entry last b n) same ∙ known n (omega arith))
  where
    same : x ≡ e
    same = same_Some x e at
seen_index last b n (x ∷ es) (suc i) e at begun known = by (is_begun last x) refl
    (seen_index last b (n + 1) es i e at begun (λ m is. known m (omega (arith, is))))
  where
    by : (t : Bool) → is_begun last x ≡ t → slice_get (begun_by last (cut_entries last b (n + 1) es))
        (index_then last i es) ≡ Some e → slice_get (begun_by last (cut_entries last b n (x ∷ es)))
        (index_then last (suc i) (x ∷ es)) ≡ Some e
    by t is rest =
        ap (λ (u : Bool). slice_get (after_first last u (cut_entry last b n x) (cut_entries last b (n + 1) es))
        (index_then last (suc i) (x ∷ es))) (begun_kept last b n x ∙ is) ∙ ap
        (λ (u : Bool). slice_get (after_first last t (cut_entry last b n x) (cut_entries last b (n + 1) es))
        (length (cond u (x ∷ begun_by last (take i es)) (begun_by last (take i es))))) is ∙ step t rest
      where
        step : (t : Bool) → slice_get (begun_by last (cut_entries last b (n + 1) es)) (index_then last i es) ≡ Some e →
            slice_get (after_first last t (cut_entry last b n x) (cut_entries last b (n + 1) es))
            (length (cond t (x ∷ begun_by last (take i es)) (begun_by last (take i es)))) ≡ Some e
        step true rest = rest
        step false rest = rest

-- another entry instead of it is seen at its index
pub seen_set : (last b n : ℕ) (es : List Observation) (i : ℕ) (e y : Observation) → slice_get es i ≡ Some e →
    is_begun last e ≡ true → is_begun last y ≡ true → ((m : ℕ) → m ≡ n + i → cut_entry last b m y ≡ y) →
    begun_by last (cut_entries last b n (set es i y)) ≡ set (begun_by last (cut_entries last b n es))
    (index_then last i es) y
seen_set last b n [] i e y at begun too known = absurd (none-some e at)
seen_set last b n (x ∷ es) zero e y at begun too known =
    ap (λ (o : Observation). after_first last (is_begun last o) o (cut_entries last b (n + 1) es))
    (known n (omega arith)) ∙ ap (λ (t : Bool). after_first last t y (cut_entries last b (n + 1) es)) too ∙
    sym (ap (λ (t : Bool). set (after_first last t (cut_entry last b n x) (cut_entries last b (n + 1) es)) 0 y)
    (begun_kept last b n x ∙ ap (is_begun last) (same_Some x e at) ∙ begun))
seen_set last b n (x ∷ es) (suc i) e y at begun too known = by (is_begun last x) refl
    (seen_set last b (n + 1) es i e y at begun too (λ m is. known m (omega (arith, is))))
  where
    by : (t : Bool) → is_begun last x ≡ t → begun_by last (cut_entries last b (n + 1) (set es i y)) ≡ set
        (begun_by last (cut_entries last b (n + 1) es)) (index_then last i es) y →
        begun_by last (cut_entries last b n (x ∷ set es i y)) ≡ set (begun_by last (cut_entries last b n (x ∷ es)))
        (index_then last (suc i) (x ∷ es)) y
    by t is rest =
        ap (λ (u : Bool). after_first last u (cut_entry last b n x) (cut_entries last b (n + 1) (set es i y)))
        (begun_kept last b n x ∙ is) ∙ step t rest ∙ sym (ap (λ (u : Bool). set
        (after_first last u (cut_entry last b n x) (cut_entries last b (n + 1) es))
        (index_then last (suc i) (x ∷ es)) y) (begun_kept last b n x ∙ is) ∙
        ap (λ (u : Bool). set (after_first last t (cut_entry last b n x) (cut_entries last b (n + 1) es))
        (length (cond u (x ∷ begun_by last (take i es)) (begun_by last (take i es)))) y) is)
      where
        step : (t : Bool) → begun_by last (cut_entries last b (n + 1) (set es i y)) ≡ set
            (begun_by last (cut_entries last b (n + 1) es)) (index_then last i es) y →
            after_first last t (cut_entry last b n x) (cut_entries last b (n + 1) (set es i y)) ≡ set
            (after_first last t (cut_entry last b n x) (cut_entries last b (n + 1) es))
            (length (cond t (x ∷ begun_by last (take i es)) (begun_by last (take i es)))) y
        step true rest = ap (λ (os : List Observation). cut_entry last b n x ∷ os) rest
        step false rest = rest

-- what had returned by a position had begun by it
begun_then : (e : Observation) (r : Returned) → e.first ≤ r.last → is_begun r.last e ≡ true
begun_then e r le = grind (arith, nat_tests)

pub asked_there : (h : ObservedHistory) (i : ℕ) (e : Observation) (r : Returned) → slice_get h.entries i ≡ Some e →
    e.returned ≡ Some r → e.first ≤ r.last → slice_get (seen_at r.last (i + 1) h).entries
    (index_then r.last i h.entries) ≡ Some e
asked_there h i e r at returned le = seen_index r.last (i + 1) 0 h.entries i e at (begun_then e r le)
    (λ m is. known_kept e r (i + 1) m returned (omega (arith, is)))

pub seen_answered : (h : ObservedHistory) (i : ℕ) (e : Observation) (r : Returned) (reply : Reply) →
    slice_get h.entries i ≡ Some e → e.returned ≡ Some r → e.first ≤ r.last →
    seen_at r.last (i + 1) (with_reply i e r reply h) ≡ with_reply (index_then r.last i h.entries) e r reply
    (seen_at r.last (i + 1) h)
seen_answered h i e r reply at returned le = ap (λ (es : List Observation). record h { entries = es })
    (seen_set r.last (i + 1) 0 h.entries i e (returned_with e r reply) at (begun_then e r le) (begun_then e r le)
    (λ m is. known_kept (returned_with e r reply) (record r { reply = reply }) (i + 1) m refl (omega (arith, is))))

-- a call returns no sooner than it begins
pub ended : (h : ObservedHistory) (i : ℕ) (e : Observation) (r : Returned) → IsObserved h →
    slice_get h.entries i ≡ Some e → e.returned ≡ Some r → e.first ≤ r.last
ended h i e r observed at returned = subst (λ (o : Option Returned). MatchOption o (Unit {0})
    (λ (q : Returned). e.first ≤ q.last)) returned (at_index IsInterval h.entries i e observed.intervals at)
