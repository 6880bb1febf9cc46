-- The first pass stands beside no other, and a pass that enters by the next root beside all others.
use Rattle.std.proofs.Common.{◌≡◌, ◌≢◌, ◌⊎◌, ℕ, ◌+◌, Bool, List, [], ◌∷◌, ◌++◌, length, refl, sym, zero, suc}
use Rattle.std.proofs.Common.{◌∙◌, ap, subst, ⊎_elim, inl, inr, arith}
use mathlib.Core.Option.{some, some-injective, some-ne-none}
use lib.ListN.{get_elem?}
use Rattle.stamp_threads.specs.declared.pass_view.LogEntry.{LogEntry}
use Rattle.stamp_threads.specs.declared.pass_view.PassView.{PassView}
use Rattle.stamp_threads.specs.PassName.{HasGiven, HasGivenAll, IsRooted, AreRooted}
use Rattle.stamp_threads.specs.PassView.{IsPart, entering, made_by}
use Rattle.stamp_threads.specs.inner.Seats.{StandsAt, AreSeated}
use Rattle.stamp_threads.proofs.Beginnings.{begins_all}
use Rattle.stamp_threads.proofs.ListElements.{at_end, only_one}
use Rattle.stamp_threads.proofs.GivenNames.{regiven, not_longer}
use Rattle.stamp_threads.proofs.MadeBy.{other_name, skips}

-- a pass that stands beside no other stands at the one index
only_index : {V : Type 0} (v : V) (i k : ℕ) (u : V) → StandsAt ((v ∷ []) ∷ []) i k u → (i ≡ 0) × (k ≡ 0) × (u ≡ v)
only_index {V} v zero k u st = only_one (λ l w. (zero ≡ 0) × (l ≡ 0) × (w ≡ v)) v (refl, refl, refl) k u
    (subst (λ (l : List V). get_elem? l k ≡ some u) (sym (some-injective _ _ st.1)) st.2)
only_index v (suc i) k u st = absurd (some-ne-none st.0 (sym st.1))

pub stands_alone : {E P : Type 0} (Fits : PassView E P → Type 0) (log : List (LogEntry E)) (v : PassView E P) →
    v.name ≡ 0 ∷ [] → v.splits ≡ 0 → Fits v → AreRooted 1 log → AreSeated Fits 1 log ((v ∷ []) ∷ [])
stands_alone {E} {P} Fits log v name splits fits rooted =
    let named : (u : PassView E P) → u ≡ v → u.name ≡ 0 ∷ [] =
    λ u e. ap (λ (w : PassView E P). w.name) e ∙ name in
    record {
      fits = λ i k u st. subst Fits (sym (only_index v i k u st).2) fits;
      apart = λ i k j l u w a b e.
          let p = only_index v i k u a in
          let q = only_index v j l w b in
          (p.0 ∙ sym q.0, p.1 ∙ sym q.1);
      given = λ i k j l u w a b.
          let p = only_index v i k u a in
          let q = only_index v j l w b in
          regiven u.name (0 ∷ []) u.splits 0 w.name (0 ∷ []) (named u p.2)
          (ap (λ (x : PassView E P). x.splits) p.2 ∙ splits) (named w q.2)
          (not_longer (0 ∷ []) 0);
      rooted = λ i k u st.
          subst (IsRooted 1) (sym (named u (only_index v i k u st).2)) (omega arith);
      entries = rooted;
    }

other_root : (m : ℕ) (name : List ℕ) → IsRooted m name → name ≢ m ∷ []
other_root m [] r = λ e. absurd r
other_root m (x ∷ name) r = λ e. let h : x ≡ m = cc in absurd (omega arith)

not_given : (m splits : ℕ) (name : List ℕ) → IsRooted m name → HasGiven (m ∷ []) splits name
not_given m splits [] r = absurd r
not_given m splits (x ∷ name) r = λ j rest e. let h : x ≡ m = cc in absurd (omega arith)

-- a rooted pass doesn't give a root
gives_no_root : (m splits : ℕ) (name : List ℕ) → IsRooted m name → HasGiven name splits (m ∷ [])
gives_no_root m splits [] r = absurd r
gives_no_root m splits (x ∷ name) r = λ j rest e. let h : m ≡ x = cc in absurd (omega arith)

rooted_further : (m : ℕ) (name : List ℕ) → IsRooted m name → IsRooted (m + 1) name
rooted_further m [] r = r
rooted_further m (x ∷ name) r = omega arith

all_further : {E : Type 0} (m : ℕ) (log : List (LogEntry E)) → AreRooted m log → AreRooted (m + 1) log
all_further m [] r = tt
all_further m (e ∷ log) r = (rooted_further m e.name r.0, all_further m log r.1)

-- no entry is the newcomer's, nor under a name that it may give
pub new_unused : {E : Type 0} (m : ℕ) (log : List (LogEntry E)) → AreRooted m log →
    HasGivenAll (m ∷ []) 0 log
new_unused m [] r = tt
new_unused m (e ∷ log) r = (not_given m 0 e.name r.0, new_unused m log r.1)

pub new_none : {E : Type 0} (kind : E → Bool) (m : ℕ) (log : List (LogEntry E)) → AreRooted m log →
    made_by kind (m ∷ []) log ≡ []
new_none kind m [] r = refl
new_none kind m (e ∷ log) r =
    skips _ (kind e.made) e.made _ (other_name _ e.name (m ∷ []) refl (other_root m e.name r.0))
    (new_none kind m log r.1)

-- it knows the whole history
pub new_part : {E P : Type 0} (is_call : E → Bool) (m : ℕ) (phase : P) (log : List (LogEntry E))
    (word : ℕ) → AreRooted m log → IsPart is_call log (entering m phase log word)
new_part is_call m phase log word r = record {
  known = begins_all log;
  own = new_none is_call m log r;
  given = new_unused m log r;
}

module _ {E P : Type 0} (Fits : PassView E P → Type 0) (m : ℕ) (log : List (LogEntry E))
    (seats : List (List (PassView E P))) (r : AreSeated Fits m log seats) (phase : P)
    (word : ℕ) (fits : Fits (entering m phase log word)) where
  abbrev w : PassView E P
  w = entering m phase log word

  abbrev After : List (List (PassView E P))
  After = seats ++ (w ∷ []) ∷ []

  abbrev New : ℕ → ℕ → PassView E P → Type 0
  New i k u = (i ≡ length seats) × (k ≡ 0) × (u ≡ w)

  old_or_new : (i k : ℕ) (u : PassView E P) → StandsAt After i k u → StandsAt seats i k u ⊎ New i k u
  old_or_new i k u st = ⊎_elim (λ (e : get_elem? seats i ≡ some st.0). inl (st.0, e, st.2))
      (λ (t : (i ≡ length seats) × (w ∷ [] ≡ st.0)).
      let only = only_one (λ l x. (l ≡ 0) × (x ≡ w)) w (refl, refl) k u
      (subst (λ (l : List (PassView E P)). get_elem? l k ≡ some u) (sym t.1) st.2) in
      inr (t.0, only.0, only.1))
      (at_end seats (w ∷ []) st.0 i st.1)

  named : (u : PassView E P) → u ≡ w → u.name ≡ m ∷ []
  named u e = ap (λ (x : PassView E P). x.name) e

  unsplit : (u : PassView E P) → u ≡ w → u.splits ≡ 0
  unsplit u e = ap (λ (x : PassView E P). x.splits) e

  pub comes : AreSeated Fits (m + 1) log After
  comes = record {
    fits = λ i k u st. ⊎_elim (λ (a : StandsAt seats i k u). r.fits i k u a)
        (λ (b : New i k u). subst Fits (sym b.2) fits) (old_or_new i k u st);
    apart = λ i k j l u x a b e. ⊎_elim
        (λ (p : StandsAt seats i k u). ⊎_elim
        (λ (q : StandsAt seats j l x). r.apart i k j l u x p q e)
        (λ (q : New j l x). absurd (other_root m u.name (r.rooted i k u p) (e ∙ named x q.2)))
        (old_or_new j l x b))
        (λ (p : New i k u). ⊎_elim
        (λ (q : StandsAt seats j l x). absurd
        (other_root m x.name (r.rooted j l x q) (sym e ∙ named u p.2)))
        (λ (q : New j l x). (p.0 ∙ sym q.0, p.1 ∙ sym q.1))
        (old_or_new j l x b))
        (old_or_new i k u a);
    given = λ i k j l u x a b. ⊎_elim
        (λ (p : StandsAt seats i k u). ⊎_elim
        (λ (q : StandsAt seats j l x). r.given i k j l u x p q)
        (λ (q : New j l x). regiven u.name u.name u.splits u.splits x.name (m ∷ []) refl refl
        (named x q.2) (gives_no_root m u.splits u.name (r.rooted i k u p)))
        (old_or_new j l x b))
        (λ (p : New i k u). ⊎_elim
        (λ (q : StandsAt seats j l x). regiven u.name (m ∷ []) u.splits 0 x.name x.name
        (named u p.2) (unsplit u p.2) refl (not_given m 0 x.name (r.rooted j l x q)))
        (λ (q : New j l x). regiven u.name (m ∷ []) u.splits 0 x.name (m ∷ [])
        (named u p.2) (unsplit u p.2) (named x q.2) (not_longer (m ∷ []) 0))
        (old_or_new j l x b))
        (old_or_new i k u a);
    rooted = λ i k u st. ⊎_elim
        (λ (a : StandsAt seats i k u). rooted_further m u.name (r.rooted i k u a))
        (λ (b : New i k u). subst (IsRooted (m + 1)) (sym (named u b.2)) (omega arith))
        (old_or_new i k u st);
    entries = all_further m log r.entries;
  }
