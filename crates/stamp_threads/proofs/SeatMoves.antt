-- Splits and joins keep the rule of the names.
use Rattle.std.proofs.Common.{◌≡◌, ◌≢◌, ◌⊎◌, ℕ, ◌<◌, ◌≤◌, eqb, if◌then◌else◌, List, [], ◌∷◌, ◌++◌}
use Rattle.std.proofs.Common.{length, set, refl, ap, sym, ◌∙◌, subst, ⊎_elim, inl, inr, arith}
use Rattle.std.proofs.Common.{le_refl, length-set, eq-eqb, ne_eqb}
use mathlib.Core.Option.{some, some-ne-none}
use lib.ListN.{get_elem?}
use Rattle.atomic_table.proofs.Lists.{at_set, set_else}
use Rattle.stamp_threads.specs.declared.pass_view.PassView.{PassView}
use Rattle.stamp_threads.specs.declared.pass_view.LogEntry.{LogEntry}
use Rattle.stamp_threads.specs.PassName.{HasGiven, IsRooted}
use Rattle.stamp_threads.specs.PassView.{after_split, split_off}
use Rattle.stamp_threads.specs.inner.Seats.{StandsAt, AreSeated}
use Rattle.stamp_threads.proofs.ListElements.{at_end, before_end, only_one, two_of}
use Rattle.stamp_threads.proofs.GivenNames.{regiven, child_unused, given_more, not_longer}
use Rattle.stamp_threads.proofs.GivenNames.{last_or_before, child_rooted}

module _ {E P : Type 0} (Fits : PassView E P → Type 0) (roots : ℕ) (log : List (LogEntry E)) where
  -- each pass stood somewhere before, and goes from there to one index
  moved : (before after : List (List (PassView E P))) → AreSeated Fits roots log before →
      (forward : ℕ → ℕ → ℕ × ℕ)
      → ((i k : ℕ) (v : PassView E P) → StandsAt after i k v →
      (j : ℕ) × (l : ℕ) × StandsAt before j l v × (forward j l ≡ (i, k))) → AreSeated Fits roots log after
  moved before after r forward back = record {
    fits = λ i k v st. let p = back i k v st in r.fits p.0 p.1 v p.2;
    apart = λ i k j l v w a b e.
        let p = back i k v a in
        let q = back j l w b in
        let t = r.apart p.0 p.1 q.0 q.1 v w p.2 q.2 e in
        let same : (i, k) ≡ (j, l) = sym p.3 ∙ ((λ z. forward (t.0 z) (t.1 z)) ∙ q.3) in
        (ap (λ (x : ℕ × ℕ). x.0) same, ap (λ (x : ℕ × ℕ). x.1) same);
    given = λ i k j l v w a b.
        let p = back i k v a in
        let q = back j l w b in
        r.given p.0 p.1 q.0 q.1 v w p.2 q.2;
    rooted = λ i k v st. let p = back i k v st in r.rooted p.0 p.1 v p.2;
    entries = r.entries;
  }

  module _ (seats : List (List (PassView E P))) (r : AreSeated Fits roots log seats) (id : ℕ)
      (v : PassView E P) (here : get_elem? seats id ≡ some (v ∷ [])) where
    abbrev Old : ℕ → ℕ → PassView E P → Type 0
    Old i k w = (u : PassView E P) × StandsAt seats i k u × (w.name ≡ u.name) ×
        (u.splits ≤ w.splits) × (i ≡ id → v.splits < w.splits) × Fits w

    abbrev New : ℕ → ℕ → PassView E P → Type 0
    New i k w = (i ≡ length seats) × (k ≡ 0) × (w ≡ split_off v)

    abbrev After : List (List (PassView E P))
    After = set seats id (after_split v ∷ []) ++ (split_off v ∷ []) ∷ []

    standing : StandsAt seats id 0 v
    standing = (v ∷ [], here, refl)

    module _ (fits_giver : Fits (after_split v)) where
      after_split_is_old : (i k : ℕ) (w : PassView E P) → i ≡ id →
          get_elem? (after_split v ∷ []) k ≡ some w → Old i k w
      after_split_is_old i k w e h = only_one (λ l u. Old i l u) (after_split v) (
        v,
        (v ∷ [], subst (λ (j : ℕ). get_elem? seats j ≡ some (v ∷ [])) (sym e) here, refl),
        refl,
        omega arith,
        (λ _. omega arith),
        fits_giver,
      ) k w h

      set_is_old : (i k : ℕ) (w : PassView E P) →
          StandsAt (set seats id (after_split v ∷ [])) i k w → Old i k w
      set_is_old i k w st = ⊎_elim
          (λ (t : (i ≡ id) × (after_split v ∷ [] ≡ st.0)). after_split_is_old i k w t.0
          (subst (λ (l : List (PassView E P)). get_elem? l k ≡ some w) (sym t.1) st.2))
          (λ (t : (i ≢ id) × (get_elem? seats i ≡ some st.0)). (
            w,
            (st.0, t.1, st.2),
            refl,
            le_refl w.splits,
            (λ e. absurd (t.0 e)),
            r.fits i k w (st.0, t.1, st.2),
          ))
          (at_set seats id i (after_split v ∷ []) st.0 st.1)

      old_or_new : (i k : ℕ) (w : PassView E P) → StandsAt After i k w → Old i k w ⊎ New i k w
      old_or_new i k w st = ⊎_elim
          (λ (e : get_elem? (set seats id (after_split v ∷ [])) i ≡ some st.0). inl
          (set_is_old i k w (st.0, e, st.2)))
          (λ (t : (i ≡ length (set seats id (after_split v ∷ []))) × (split_off v ∷ [] ≡ st.0)).
          let h : get_elem? (split_off v ∷ []) k ≡ some w =
          subst (λ (l : List (PassView E P)). get_elem? l k ≡ some w) (sym t.1) st.2 in
          let only = only_one (λ l u. (l ≡ 0) × (u ≡ split_off v)) (split_off v) (refl, refl) k w
          h in
          inr (t.0 ∙ length-set seats id (after_split v ∷ []), only.0, only.1))
          (at_end (set seats id (after_split v ∷ [])) (split_off v ∷ []) st.0 i st.1)

    not_child : (i k : ℕ) (u : PassView E P) {A : Type 0} → StandsAt seats i k u →
        u.name ≡ v.name ++ v.splits ∷ [] → A
    not_child i k u st e = let l = r.given id 0 i k v u standing st v.splits [] e in
        absurd (omega arith)

    apart_after : (i k j l : ℕ) (x y : PassView E P) → Old i k x ⊎ New i k x →
        Old j l y ⊎ New j l y → x.name ≡ y.name → (i ≡ j) × (k ≡ l)
    apart_after i k j l x y p q e = ⊎_elim
        (λ (a : Old i k x). ⊎_elim
        (λ (b : Old j l y). r.apart i k j l a.0 b.0 a.1 b.1 (sym a.2 ∙ (e ∙ b.2)))
        (λ (b : New j l y). not_child i k a.0 a.1
        (sym a.2 ∙ (e ∙ ap (λ (z : PassView E P). z.name) b.2)))
        q)
        (λ (a : New i k x). ⊎_elim
        (λ (b : Old j l y). not_child j l b.0 b.1
        (sym b.2 ∙ (sym e ∙ ap (λ (z : PassView E P). z.name) a.2)))
        (λ (b : New j l y). (a.0 ∙ sym b.0, a.1 ∙ sym b.1))
        q)
        p

    gives_child : (i k : ℕ) (x y : PassView E P) → Old i k x → y ≡ split_off v →
        HasGiven x.name x.splits y.name
    gives_child i k x y a is j rest p = ⊎_elim
        (λ (t : (v.name ≡ a.0.name) × (v.splits ≡ j)).
        let index = r.apart id 0 i k v a.0 standing a.1 t.0 in
        let l = a.4 (sym index.0) in
        let f = t.1 in
        omega arith)
        (λ (t : (more : List ℕ) × (v.name ≡ a.0.name ++ j ∷ more)). let l =
        r.given i k id 0 a.0 v a.1 standing j t.0 t.1 in let f = a.3 in omega arith)
        (last_or_before v.name a.0.name v.splits j rest
        (sym (ap (λ (z : PassView E P). z.name) is) ∙
        (p ∙ ap (λ (n : List ℕ). n ++ j ∷ rest) a.2)))

    given_after : (i k j l : ℕ) (x y : PassView E P) → Old i k x ⊎ New i k x →
        Old j l y ⊎ New j l y → HasGiven x.name x.splits y.name
    given_after i k j l x y p q = ⊎_elim
        (λ (a : Old i k x). ⊎_elim
        (λ (b : Old j l y). given_more x.name a.0.splits x.splits y.name a.3
        (regiven x.name a.0.name a.0.splits a.0.splits y.name b.0.name a.2 refl b.2
        (r.given i k j l a.0 b.0 a.1 b.1)))
        (λ (b : New j l y). gives_child i k x y a b.2)
        q)
        (λ (a : New i k x). ⊎_elim
        (λ (b : Old j l y). regiven x.name (split_off v).name x.splits 0 y.name b.0.name
        (ap (λ (z : PassView E P). z.name) a.2) (ap (λ (z : PassView E P). z.splits) a.2) b.2
        (child_unused v.name v.splits b.0.name (r.given id 0 j l v b.0 standing b.1)))
        (λ (b : New j l y). regiven x.name (split_off v).name x.splits 0 y.name (split_off v).name
        (ap (λ (z : PassView E P). z.name) a.2) (ap (λ (z : PassView E P). z.splits) a.2)
        (ap (λ (z : PassView E P). z.name) b.2) (not_longer (split_off v).name 0))
        q)
        p

    -- a split
    pub gives : Fits (after_split v) → Fits (split_off v) → AreSeated Fits roots log After
    gives after_split_fits split_off_fits = record {
      fits = λ i k w st. ⊎_elim (λ (a : Old i k w). a.5)
          (λ (a : New i k w). subst Fits (sym a.2) split_off_fits)
          (old_or_new after_split_fits i k w st);
      apart = λ i k j l x y a b. apart_after i k j l x y (old_or_new after_split_fits i k x a)
          (old_or_new after_split_fits j l y b);
      given = λ i k j l x y a b. given_after i k j l x y (old_or_new after_split_fits i k x a)
          (old_or_new after_split_fits j l y b);
      rooted = λ i k w st. ⊎_elim
          (λ (a : Old i k w). subst (IsRooted roots) (sym a.2) (r.rooted i k a.0 a.1))
          (λ (a : New i k w). subst (IsRooted roots)
          (sym (ap (λ (z : PassView E P). z.name) a.2))
          (child_rooted roots v.name v.splits (r.rooted id 0 v standing)))
          (old_or_new after_split_fits i k w st);
      entries = r.entries;
    }

  abbrev joined_to : ℕ → ℕ → ℕ → ℕ → ℕ × ℕ
  joined_to id other j l = if eqb j other then (id, 1) else (j, l)

  -- a join
  pub together : (seats : List (List (PassView E P))) → AreSeated Fits roots log seats →
      (id : ℕ) (v : PassView E P) (other : ℕ) (u : PassView E P) →
      get_elem? seats id ≡ some (v ∷ []) → other ≢ id →
      get_elem? (set seats id (v ∷ u ∷ [])) other ≡ some (u ∷ [])
      → AreSeated Fits roots log (set (set seats id (v ∷ u ∷ [])) other [])
  together seats r id v other u at away there =
      let before : get_elem? seats other ≡ some (u ∷ []) =
      ⊎_elim (λ (t : (other ≡ id) × (v ∷ u ∷ [] ≡ u ∷ [])). absurd (away t.0))
      (λ (t : (other ≢ id) × (get_elem? seats other ≡ some (u ∷ []))). t.1)
      (at_set seats id other (v ∷ u ∷ []) (u ∷ []) there) in
      moved seats (set (set seats id (v ∷ u ∷ [])) other []) r (joined_to id other)
      (λ i k x st. ⊎_elim
      (λ (t : (i ≡ other) × ([] ≡ st.0)). absurd
      (some-ne-none x
      (sym (subst (λ (l : List (PassView E P)). get_elem? l k ≡ some x) (sym t.1) st.2))))
      (λ (t : (i ≢ other) × (get_elem? (set seats id (v ∷ u ∷ [])) i ≡ some st.0)). ⊎_elim
      (λ (q : (i ≡ id) × (v ∷ u ∷ [] ≡ st.0)). two_of
      (λ l y. (j : ℕ) × (m : ℕ) × StandsAt seats j m y × (joined_to id other j m ≡ (i, l))) v u
      (id, 0, (v ∷ [], at, refl), rw (ne_eqb id other (λ e. away (sym e))) (λ z. (sym q.0 z, 0)))
      (other, 0, (u ∷ [], before, refl), rw (eq-eqb other other refl) (λ z. (sym q.0 z, 1)))
      k x (subst (λ (l : List (PassView E P)). get_elem? l k ≡ some x) (sym q.1) st.2))
      (λ (q : (i ≢ id) × (get_elem? seats i ≡ some st.0)). (
        i,
        k,
        (st.0, q.1, st.2),
        rw (ne_eqb i other t.0) refl,
      ))
      (at_set seats id i (v ∷ u ∷ []) st.0 t.1))
      (at_set (set seats id (v ∷ u ∷ [])) other i [] st.0 st.1))

  abbrev parted_to : ℕ → ℕ → ℕ → ℕ → ℕ × ℕ
  parted_to id count j l = if eqb j id then (if eqb l 0 then (id, 0) else (count, 0)) else (j, l)

  -- a split of two passes on one seat
  pub parted : (seats : List (List (PassView E P))) → AreSeated Fits roots log seats →
      (id : ℕ) (v u : PassView E P) → get_elem? seats id ≡ some (v ∷ u ∷ []) →
      AreSeated Fits roots log (set seats id (v ∷ []) ++ (u ∷ []) ∷ [])
  parted seats r id v u at =
      moved seats (set seats id (v ∷ []) ++ (u ∷ []) ∷ []) r (parted_to id (length seats))
      (λ i k x st. ⊎_elim
      (λ (e : get_elem? (set seats id (v ∷ [])) i ≡ some st.0). ⊎_elim
      (λ (q : (i ≡ id) × (v ∷ [] ≡ st.0)). only_one
      (λ l y. (j : ℕ) × (m : ℕ) × StandsAt seats j m y ×
      (parted_to id (length seats) j m ≡ (i, l))) v
      (id, 0, (v ∷ u ∷ [], at, refl), rw (eq-eqb id id refl) (λ z. (sym q.0 z, 0)))
      k x (subst (λ (l : List (PassView E P)). get_elem? l k ≡ some x) (sym q.1) st.2))
      (λ (q : (i ≢ id) × (get_elem? seats i ≡ some st.0)). (
        i,
        k,
        (st.0, q.1, st.2),
        rw (ne_eqb i id q.0) refl,
      ))
      (at_set seats id i (v ∷ []) st.0 e))
      (λ (t : (i ≡ length (set seats id (v ∷ []))) × (u ∷ [] ≡ st.0)). only_one
      (λ l y. (j : ℕ) × (m : ℕ) × StandsAt seats j m y ×
      (parted_to id (length seats) j m ≡ (i, l))) u (
        id,
        1,
        (v ∷ u ∷ [], at, refl),
        rw (eq-eqb id id refl)
            (λ z. (sym (t.0 ∙ length-set seats id (v ∷ [])) z, 0)),
      )
      k x (subst (λ (l : List (PassView E P)). get_elem? l k ≡ some x) (sym t.1) st.2))
      (at_end (set seats id (v ∷ [])) (u ∷ []) st.0 i st.1))

-- a pass on a seat that none of these moves touches stands where it stood
pub stands_else : {V : Type 0} (seats : List (List V)) (id : ℕ) (ws : List V) (i k : ℕ) (v : V) →
    i ≢ id → StandsAt seats i k v → StandsAt (set seats id ws) i k v
stands_else seats id ws i k v away st = (st.0, set_else seats id i ws away ∙ st.1, st.2)

pub stands_before : {V : Type 0} (seats : List (List V)) (us : List V) (i k : ℕ) (v : V) →
    StandsAt seats i k v → StandsAt (seats ++ us ∷ []) i k v
stands_before seats us i k v st = (st.0, before_end seats us st.0 i st.1, st.2)
