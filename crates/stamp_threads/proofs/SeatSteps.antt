-- A step of one seat keeps the names, and what the passes know.
use Rattle.std.proofs.Common.{◌≡◌, ◌≢◌, ℕ, Bool, List, [], ◌∷◌, set, refl, sym, ◌∙◌, subst, ⊎_elim}
use mathlib.Core.Option.{some}
use lib.ListN.{get_elem?}
use Rattle.atomic_table.proofs.Lists.{at_set}
use Rattle.stamp_threads.specs.declared.pass_view.LogEntry.{LogEntry}
use Rattle.stamp_threads.specs.declared.pass_view.PassView.{PassView}
use Rattle.stamp_threads.specs.PassName.{HasGivenAll, IsRooted}
use Rattle.stamp_threads.specs.PassView.{IsPart, IsSamePass}
use Rattle.stamp_threads.specs.inner.Seats.{StandsAt, AreSeated}
use Rattle.stamp_threads.proofs.Beginnings.{begins_further}
use Rattle.stamp_threads.proofs.ListElements.{only_one, two_of}
use Rattle.stamp_threads.proofs.MadeBy.{Grows}
use Rattle.stamp_threads.proofs.GivenNames.{regiven}

-- at each index stands a pass of the same name that has split as often
abbrev pub Same : {E P : Type 0} → List (PassView E P) → List (PassView E P) → Type 0
Same {E} {P} vs ws = (k : ℕ) (w : PassView E P) → get_elem? ws k ≡ some w →
    (v : PassView E P) × (get_elem? vs k ≡ some v) × IsSamePass v w

pub same_one : {E P : Type 0} (v w : PassView E P) → w.name ≡ v.name → w.splits ≡ v.splits →
    Same (v ∷ []) (w ∷ [])
same_one {E} {P} v w name splits = only_one
    (λ k u. (x : PassView E P) × (get_elem? (v ∷ []) k ≡ some x) × IsSamePass x u) w
    (v, refl, record { name = name; splits = splits })

pub same_two : {E P : Type 0} (v u v' u' : PassView E P) → IsSamePass v v' → IsSamePass u u' →
    Same (v ∷ u ∷ []) (v' ∷ u' ∷ [])
same_two {E} {P} v u v' u' a b = two_of (λ k w. (x : PassView E P) ×
    (get_elem? (v ∷ u ∷ []) k ≡ some x) × IsSamePass x w) v' u' (v, refl, a) (u, refl, b)

module _ {E P : Type 0} (Fits : PassView E P → Type 0) (roots : ℕ) (log : List (LogEntry E))
    (seats : List (List (PassView E P))) (r : AreSeated Fits roots log seats) (id : ℕ)
    (vs ws : List (PassView E P))
    (at : get_elem? seats id ≡ some vs) (same : Same vs ws) where
  came_from : (i k : ℕ) (w : PassView E P) → StandsAt (set seats id ws) i k w →
      (v : PassView E P) × StandsAt seats i k v × IsSamePass v w
  came_from i k w st = ⊎_elim
      (λ (t : (i ≡ id) × (ws ≡ st.0)). let m =
      same k w (subst (λ (l : List (PassView E P)). get_elem? l k ≡ some w) (sym t.1) st.2) in
      (m.0, (vs, subst (λ (j : ℕ). get_elem? seats j ≡ some vs) (sym t.0) at, m.1), m.2))
      (λ (t : (i ≢ id) × (get_elem? seats i ≡ some st.0)). (
        w,
        (st.0, t.1, st.2),
        record { name = refl; splits = refl },
      ))
      (at_set seats id i ws st.0 st.1)

  -- the rule of the names after the step
  pub stands_on : (Fits' : PassView E P → Type 0) (log' : List (LogEntry E)) → Grows vs log log' →
      ((k : ℕ) (w : PassView E P) → get_elem? ws k ≡ some w → Fits' w) →
      ((i k : ℕ) (w : PassView E P) → i ≢ id → StandsAt seats i k w → Fits' w) →
      AreSeated Fits' roots log' (set seats id ws)
  stands_on Fits' log' grows own others = record {
    fits = λ i k w st. ⊎_elim
        (λ (t : (i ≡ id) × (ws ≡ st.0)). own k w
        (subst (λ (l : List (PassView E P)). get_elem? l k ≡ some w) (sym t.1) st.2))
        (λ (t : (i ≢ id) × (get_elem? seats i ≡ some st.0)). others i k w t.0 (st.0, t.1, st.2))
        (at_set seats id i ws st.0 st.1);
    apart = λ i k j l v w a b e.
        let p = came_from i k v a in
        let q = came_from j l w b in
        r.apart i k j l p.0 q.0 p.1 q.1 (sym p.2.name ∙ (e ∙ q.2.name));
    given = λ i k j l v w a b.
        let p = came_from i k v a in
        let q = came_from j l w b in
        regiven v.name p.0.name v.splits p.0.splits w.name q.0.name p.2.name p.2.splits q.2.name
        (r.given i k j l p.0 q.0 p.1 q.1);
    rooted = λ i k w st.
        let p = came_from i k w st in
        subst (IsRooted roots) (sym p.2.name) (r.rooted i k p.0 p.1);
    entries = grows.rooted roots (λ k v h. r.rooted id k v (vs, at, h)) r.entries;
  }

  -- a pass elsewhere has another name
  pub apart_from : (i k : ℕ) (w : PassView E P) → i ≢ id → StandsAt seats i k w →
      (j : ℕ) (v : PassView E P) → get_elem? vs j ≡ some v → v.name ≢ w.name
  apart_from i k w away st j v h e = away (sym (r.apart id j i k v w (vs, at, h) st e).0)

  module _ (is_call : E → Bool) (log' : List (LogEntry E)) (grows : Grows vs log log')
      (part : (v : PassView E P) → Fits v → IsPart is_call log v) where
    pub own_given : (k : ℕ) (w : PassView E P) → get_elem? ws k ≡ some w →
        HasGivenAll w.name w.splits log'
    own_given k w h =
        let m = same k w h in
        let all = grows.given m.0.name m.0.splits
        (λ j u e. r.given id k id j m.0 u (vs, at, m.1) (vs, at, e))
        (part m.0 (r.fits id k m.0 (vs, at, m.1))).given in
        subst (λ (t : List ℕ × ℕ). HasGivenAll t.0 t.1 log')
        (λ i. (sym m.2.name i, sym m.2.splits i)) all

    pub other_part : (i k : ℕ) (w : PassView E P) → i ≢ id → StandsAt seats i k w →
        IsPart is_call log' w
    other_part i k w away st =
        let f = part w (r.fits i k w st) in
        record {
          known = begins_further w.known log log' f.known grows.longer;
          own = grows.others is_call w.name (apart_from i k w away st) ∙ f.own;
          given = grows.given w.name w.splits (λ j v h. r.given i k id j w v st (vs, at, h))
              f.given;
        }
