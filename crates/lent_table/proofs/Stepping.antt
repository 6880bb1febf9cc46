-- The table's invariant, at a step on its word. Assumes `Logic`.
use Rattle.std.proofs.Common.{◌≡◌, ◌≢◌, ℕ, ◌<◌, T, List, [], ◌∷◌, ◌++◌, sym, refl, arith, w64}
use mathlib.Core.Option as maybe
use lib.ListN.{get_elem?}
use seplogic.Ra.Ura.{Ura}
use mir.Syntax.{ty_int}
use mir.Val.{vint, has_ty, WT}
use base.Fraction.{full_share}
use base.Share.{three_quarters}
use base.Stored.{Coded}
use base.Logic.{SProp, ex, all, guard, guard_i, upd, all_e, upd_i}
use base.Fml.{Share, Fml, ftrue, fsep, fex, fbor, finv, flft}
use types.Logic.{Logic}
use types.Kit.{‵, raw, ◌⊛◌, some, given, ◌$◌, ◌∵◌, !, qed, by, move, keep, drop, split, split3, join, fsplit, fsplit3}
use types.Kit.{fjoin, fjoin3, fpick, fpack, pick, learn, show, check, frame, each, assume, suffices, settle, done}
use types.Kit.{use1, use2, use3, rewrite}
use contract.Monad.{fact as known, fact_i, fact_use}
use denote.RattleType.{RattleType, RowLaws}
use denote.RawPtr.{Ptr, block_ptr}
use denote.Steps.{nothing}
use Rattle.core.specs.Sync.RawAtomic.{asks, always, word}
use Rattle.core.proofs.raw_atomic.Asked.{borrowed, Lies, Again}
use Rattle.atomic_table.specs.Seated.{fact, seen, roster}
use Rattle.atomic_table.proofs.Roster.{Moved, moves, apart, Joined, joins}
use Rattle.lent_table.specs.Table.{Fits, State, Me, Hold, none, Act, stays, hold_after, stepped, Finds, Allows}
use Rattle.lent_table.specs.Table.{LearnsAt, Learns, Neighbours, LearnsBeside, Enters}
use Rattle.lent_table.specs.Lending.{TableId, age, home_owns, hold_owns, seat_owns, Placed, standing, inner, common}
use Rattle.lent_table.specs.inner.Lending.{hold_steps}
use Rattle.lent_table.proofs.Rounds.{acts, fits, fits_step}
use Rattle.lent_table.proofs.Signs.{signs, table_signs, spot}

module _ {M : Type 1} {𝓤 : Ura M} (𝓛 : Logic 𝓤) (R : RattleType) {V : Type 0} (cv : Coded V)
    (holds : State R.Denot V → Type 0) (w p : Ptr) (z : TableId) where
  open 𝓛 use {H, A}
  open signs 𝓛 use {⟦◌⟧, ◌∗◌, ◌⊢◌}
  open table_signs R z use {α}
  open spot w use {b, o}

  abbrev S : Type 0
  S = State R.Denot V

  abbrev C : Fml
  C = common R cv.code holds w p z

  abbrev I : Fml
  I = inner R cv.code holds w p z

  abbrev views : List V → Fml
  views vs = roster cv.code z.views_name 0 vs

  abbrev half : ℕ → V → Fml
  half id v = seen cv.code z.views_name id three_quarters v

  pub common_twice : ⟦ C ⟧ ⊢ ⟦ C ⟧ ∗ ⟦ C ⟧
  common_twice = let J : Fml = finv (fbor (age z) I) in let Here : Type 0 = Placed w p z in qed 𝓛 (‵ C ∷ []) ∵
      fsplit ! $ fpick ! (λ at. drop ! $
      use1 𝓛 (‵ J ⊛ ‵ J) (𝓛.invs.inv_dup (fbor (age z) I)) $ split ! $ nothing ! $ fpack ! Here (λ _. ftrue) at $
      fjoin ! $ frame ! $
      nothing ! $ fpack ! Here (λ _. ftrue) at $ done !)

  pub placed : ⟦ C ⟧ ⊢ known 𝓤 (Placed w p z)
  placed = qed 𝓛 (‵ C ∷ []) ∵ fsplit ! $ keep ! (0 ∷ []) $ done !

  -- what is known of a seat's view, and where it may go
  abbrev Goes : List V → ℕ → V → SProp 𝓤
  Goes vs id v = guard 𝓤 (get_elem? vs id ≡ maybe.some v) (all 𝓤 (Moved 𝓛 cv z.views_name 0 vs id id))

  view_goes : (vs : List V) (id : ℕ) (v : V) → ⟦ views vs ⟧ ∗ ⟦ half id v ⟧ ⊢ Goes vs id v
  view_goes vs id v = moves 𝓛 cv z.views_name vs 0 id id v (omega arith)

  module _ (q : Share) where
    abbrev Beside : S → SProp 𝓤
    Beside s = ⟦ home_owns R z s.home ⟧ ∗ ⟦ views s.views ⟧

    abbrev Turns : (ℕ → ℕ) → (ℕ → Fml) → S → S → SProp 𝓤
    Turns f after s t = guard 𝓤 ((t.word ≡ f s.word) × holds t) (Beside t ∗ ⟦ after s.word ⟧)

    -- the word becomes f of what it was, where all that stands beside it can follow
    at_step : (f : ℕ → ℕ) (after : ℕ → Fml) (K : Fml)
        → ((s : S) → holds s → s.word < 18446744073709551616 → Beside s ∗ ⟦ K ⟧ ⊢ upd 𝓤 (ex 𝓤 (Turns f after s)))
        → ⟦ C ⟧ ∗ A.lft α q ∗ ⟦ K ⟧ ⊢ asks 𝓛 (block_ptr b o) f always (λ n. fsep (flft α q) (after n))
    at_step f after K law = let G : SProp 𝓤 = ex 𝓤 (Lies 𝓛 α q I b o f always after) in
        qed 𝓛 (‵ C ∷ ‵ (flft α q) ∷ ‵ K ∷ []) ∵ fsplit ! $ drop ! $
        by ! (borrowed 𝓛 α q I b o f always after ⟦ K ⟧ (qed 𝓛 (‵ I ∷ ‵ K ∷ []) ∵
        suffices ! _ (upd_i 𝓤 G) $ fpick ! (λ s. fsplit3 ! $ move ! (2 ∷ []) $ fpick ! (λ so. drop ! $
        let n : ℕ = s.word in let Z : SProp 𝓤 = ⟦ I ⟧ ∗ ⟦ after n ⟧ in
        use1 𝓛 (given (T (has_ty (ty_int w64) (vint w64 n)) × WT (vint w64 n)) (‵ (word b o n)))
        (𝓛.laws.at_wt full_share (ty_int w64) b o (vint w64 n)) $ learn ! (λ typed.
        show ! (Lies 𝓛 α q I b o f always after) n $ frame ! $
        each ! (λ (_ : Unit {0}). Again 𝓛 α q I b o f always after n) (λ _. assume ! (‵ (word b o (f n))) $
        move ! (1 ∷ 2 ∷ []) $ use2 𝓛 (raw (upd 𝓤 (ex 𝓤 (Turns f after s)))) (law s so typed.1.fits) $
        settle 𝓛 Z (some (λ (t : S). given ((t.word ≡ f n) × holds t)
        (‵ (fsep (home_owns R z t.home) (views t.views)) ⊛ ‵ (after n)))) $
        pick ! (λ t. learn ! (λ good. split ! $ rewrite ! 2 (λ (m : ℕ). ‵ (word b o m)) (sym good.0) refl $
        nothing ! $ fpack ! (holds t) (λ _. ftrue) good.1 $ move ! (3 ∷ 1 ∷ 0 ∷ []) $ fjoin3 ! $
        fpack ! S (standing R cv.code holds w p z) t $
        suffices ! _ (upd_i 𝓤 Z) $ done !))))))))

    -- a look at the word changes nothing
    pub glances : ⟦ C ⟧ ∗ A.lft α q ∗ ⟦ ftrue ⟧ ⊢ asks 𝓛 (block_ptr b o) (λ n. n) always (λ n. fsep (flft α q) ftrue)
    glances = at_step (λ n. n) (λ _. ftrue) ftrue (λ s so small.
        let Same : S → SProp 𝓤 = Turns (λ n. n) (λ _. ftrue) s in
        qed 𝓛 (raw (Beside s) ∷ ‵ ftrue ∷ []) ∵ suffices ! _ (upd_i 𝓤 (ex 𝓤 Same)) $
        show ! Same s $ check ! (refl, so) $ done !)

    module _ (L : RowLaws R) (id : ℕ) (me : Me R.Denot V) (f : ℕ → ℕ) (then : ℕ → Me R.Denot V → Type 0) where
      abbrev hold : Hold R.Denot → Fml
      hold = hold_steps R z

      abbrev pub exchanged : ℕ → Me R.Denot V → Fml
      exchanged n u = fsep (fact (then n u)) (fsep (hold u.1) (half id u.0))

      abbrev pub after_exchange : ℕ → Fml
      after_exchange n = fex (Me R.Denot V) (exchanged n)

      pub exchanges : Allows holds id me f then
          → ⟦ C ⟧ ∗ A.lft α q ∗ ⟦ fsep (hold me.1) (half id me.0) ⟧ ⊢ asks 𝓛 (block_ptr b o) f always (λ n.
          fsep (flft α q) (after_exchange n))
      exchanges law = at_step f after_exchange (fsep (hold me.1) (half id me.0)) (λ s so small.
          let n : ℕ = s.word in let Z : SProp 𝓤 = ex 𝓤 (Turns f after_exchange s) in
          qed 𝓛 ((‵ (home_owns R z s.home) ⊛ ‵ (views s.views)) ∷ (‵ (hold me.1) ⊛ ‵ (half id me.0)) ∷ []) ∵
          split ! $ move ! (2 ∷ []) $ split ! $ move ! (3 ∷ 1 ∷ []) $
          use2 𝓛 (given (get_elem? s.views id ≡ maybe.some me.0)
          (raw (all 𝓤 (Moved 𝓛 cv z.views_name 0 s.views id id)))) (view_goes s.views id me.0) $ learn ! (λ at.
          move ! (2 ∷ 1 ∷ []) $ use2 𝓛 (given (Fits s.home me.1) (‵ (home_owns R z s.home) ⊛ ‵ (hold me.1)))
          (fits_step 𝓛 R L z s.home me.1) $ learn ! (λ fit. split ! $ move ! (2 ∷ []) $
          let r = law s (record { rule = so; view = at; hold = fit; small = small }) in
          let u : V = r.0 in let a : Act R.Denot = r.1 in
          let t : S = stepped s (f n) id u a in let to : Me R.Denot V = (u, hold_after me.1 a) in
          use1 𝓛 (raw (Moved 𝓛 cv z.views_name 0 s.views id id u))
          (all_e 𝓤 (Moved 𝓛 cv z.views_name 0 s.views id id) u) $
          settle 𝓛 Z (‵ (views t.views) ⊛ ‵ (half id u)) $ suffices ! _ (upd_i 𝓤 Z) $ split ! $ move ! (2 ∷ 3 ∷ []) $
          use2 𝓛 (‵ (home_owns R z t.home) ⊛ ‵ (hold to.1)) (acts 𝓛 R L z s.home me.1 a r.2) $ split ! $
          show ! (Turns f after_exchange s) t $ check ! (refl, r.3) $ move ! (0 ∷ 2 ∷ []) $ join ! $ frame ! $
          show ! (λ (x : Me R.Denot V). ⟦ exchanged n x ⟧) to $
          nothing ! $ fpack ! (then n to) (λ _. ftrue) r.4 $ move ! (0 ∷ 1 ∷ 2 ∷ []) $ done !)))

    module _ (L : RowLaws R) (id : ℕ) (me : Me R.Denot V) (then : ℕ → Me R.Denot V → Type 0) where
      abbrev pub learned : ℕ → V → Fml
      learned n u = fsep (fact (then n (u, me.1))) (seat_owns R cv.code z id (u, me.1))

      abbrev after_load : ℕ → Fml
      after_load n = fex V (learned n)

      -- beside what stays as it is
      module _ (K : Fml) where
        abbrev seat_beside : Fml
        seat_beside = fsep K (seat_owns R cv.code z id me)

        abbrev pub after_beside : ℕ → Fml
        after_beside n = fsep K (after_load n)

        -- and tells which table it may be
        module _ (Among : S → Type 0)
            (tells : (s : S) → ⟦ views s.views ⟧ ∗ ⟦ half id me.0 ⟧ ∗ ⟦ K ⟧ ⊢ known 𝓤 (Among s)) where
          loads_among : ((s : S) → Finds holds id me s → Among s → LearnsAt holds id me then s)
              → ⟦ C ⟧ ∗ A.lft α q ∗ ⟦ seat_beside ⟧ ⊢ asks 𝓛 (block_ptr b o) (λ n. n) always (λ n.
              fsep (flft α q) (after_beside n))
          loads_among law = at_step (λ n. n) after_beside seat_beside (λ s so small.
              let n : ℕ = s.word in let Z : SProp 𝓤 = ex 𝓤 (Turns (λ n. n) after_beside s) in
              let had : Fml = hold_owns R z me.1 in
              qed 𝓛 ((‵ (home_owns R z s.home) ⊛ ‵ (views s.views)) ∷ (‵ K ⊛ (‵ had ⊛ ‵ (half id me.0))) ∷ []) ∵
              split ! $ move ! (2 ∷ []) $ split ! $ move ! (1 ∷ []) $ split ! $ move ! (4 ∷ 1 ∷ 2 ∷ []) $
              use3 𝓛 (given (Among s) (‵ (views s.views) ⊛ ‵ (half id me.0) ⊛ ‵ K))
              (fact_use 𝓤 _ (tells s) (guard_i 𝓤 (Among s) _)) $ learn ! (λ among. split3 ! $
              use2 𝓛 (given (get_elem? s.views id ≡ maybe.some me.0)
              (raw (all 𝓤 (Moved 𝓛 cv z.views_name 0 s.views id id)))) (view_goes s.views id me.0) $ learn ! (λ at.
              move ! (3 ∷ 2 ∷ []) $ use2 𝓛 (given (Fits s.home me.1) (‵ (home_owns R z s.home) ⊛ ‵ had))
              (fits 𝓛 R L z s.home me.1) $ learn ! (λ fit. split ! $ move ! (2 ∷ []) $
              let r = law s (record { rule = so; view = at; hold = fit; small = small }) among in
              let u : V = r.0 in let t : S = stepped s n id u stays in
              use1 𝓛 (raw (Moved 𝓛 cv z.views_name 0 s.views id id u))
              (all_e 𝓤 (Moved 𝓛 cv z.views_name 0 s.views id id) u) $
              settle 𝓛 Z (‵ (views t.views) ⊛ ‵ (half id u)) $ suffices ! _ (upd_i 𝓤 Z) $ split ! $
              show ! (Turns (λ n. n) after_beside s) t $ check ! (refl, r.1) $ move ! (2 ∷ 0 ∷ []) $ join ! $ frame ! $
              move ! (2 ∷ []) $ frame ! $ show ! (λ (x : V). ⟦ learned n x ⟧) u $
              nothing ! $ fpack ! (then n (u, me.1)) (λ _. ftrue) r.2 $ move ! (0 ∷ 2 ∷ 1 ∷ []) $ done !))))

      pub loads : Learns holds id me then
          → ⟦ C ⟧ ∗ A.lft α q ∗ ⟦ seat_beside ftrue ⟧ ⊢ asks 𝓛 (block_ptr b o) (λ n. n) always (λ n.
          fsep (flft α q) (after_beside ftrue n))
      loads law = loads_among ftrue (λ _. Unit {0}) (λ s. fact_i 𝓤 (Unit {0}) _ tt) (λ s finds _. law s finds)

      -- the view of another seat
      neighbours : (other : ℕ) (v : V) (s : S)
          → ⟦ views s.views ⟧ ∗ ⟦ half id me.0 ⟧ ∗ ⟦ half other v ⟧ ⊢ known 𝓤 (Neighbours id other v s)
      neighbours other v s = let Told : Type 0 = Neighbours id other v s in
          qed 𝓛 (‵ (views s.views) ∷ ‵ (half id me.0) ∷ ‵ (half other v) ∷ []) ∵ move ! (1 ∷ 2 ∷ []) $
          use2 𝓛 (given (other ≢ id) (‵ (half id me.0) ⊛ ‵ (half other v)))
          (apart 𝓛 cv z.views_name id other me.0 v) $ learn ! (λ others. split ! $ move ! (2 ∷ 1 ∷ []) $
          use2 𝓛 (given (get_elem? s.views other ≡ maybe.some v)
          (raw (all 𝓤 (Moved 𝓛 cv z.views_name 0 s.views other other)))) (view_goes s.views other v) $ learn ! (λ at.
          by ! (fact_i 𝓤 Told _ (others, at))))

      pub loads_beside : (other : ℕ) (v : V) → LearnsBeside holds id me other v then
          → ⟦ C ⟧ ∗ A.lft α q ∗ ⟦ seat_beside (half other v) ⟧ ⊢ asks 𝓛 (block_ptr b o) (λ n. n) always (λ n.
          fsep (flft α q) (after_beside (half other v) n))
      loads_beside other v law = loads_among (half other v) (Neighbours id other v) (neighbours other v) law

    module _ (then : ℕ → Me R.Denot V → Type 0) where
      abbrev pub come : ℕ → ℕ × V → Fml
      come n t = fsep (fact (then n (t.1, none))) (half t.0 t.1)

      abbrev pub after_enter : ℕ → Fml
      after_enter n = fex (ℕ × V) (come n)

      pub enters : Enters holds then → ⟦ C ⟧ ∗ A.lft α q ∗ ⟦ ftrue ⟧ ⊢ asks 𝓛 (block_ptr b o) (λ n. n) always (λ n.
          fsep (flft α q) (after_enter n))
      enters law = at_step (λ n. n) after_enter ftrue (λ s so small. let n : ℕ = s.word in
          let Z : SProp 𝓤 = ex 𝓤 (Turns (λ n. n) after_enter s) in
          let r = law s so small in let u : V = r.0 in
          let t : S = record { word = n; home = s.home; views = s.views ++ u ∷ [] } in
          qed 𝓛 ((‵ (home_owns R z s.home) ⊛ ‵ (views s.views)) ∷ ‵ ftrue ∷ []) ∵ split ! $ move ! (1 ∷ []) $
          use1 𝓛 (raw (upd 𝓤 (ex 𝓤 (Joined 𝓛 cv z.views_name 0 s.views u)))) (joins 𝓛 cv z.views_name s.views 0 u) $
          settle 𝓛 Z (some (λ (j : ℕ). ‵ (views t.views) ⊛ ‵ (half j u))) $ suffices ! _ (upd_i 𝓤 Z) $
          pick ! (λ j. split ! $
          show ! (Turns (λ n. n) after_enter s) t $ check ! (refl, r.1) $ move ! (2 ∷ 0 ∷ []) $ join ! $ frame ! $
          show ! (λ (x : ℕ × V). ⟦ come n x ⟧) (j, u) $
          nothing ! $ fpack ! (then n (u, none)) (λ _. ftrue) r.2 $ keep ! (0 ∷ 1 ∷ []) $ done !))
