-- A `&` to a seat shows the value that the seat may see. A reader's part of the round does so at once. A writer's
-- borrow is of no use before the age is known to last, as it is where the table is borrowed too: so it is kept until a
-- reference to the value is asked for, and shared then. Assumes `Logic`.
use Rattle.std.proofs.Common.{◌≡◌, ℕ, [], ◌∷◌, ◌++◌, refl, sym, Bool, true, false, true≢false, Some, None}
use Rattle.std.specs.Prelude.{IsSome}
use seplogic.Ra.Ura.{Ura}
use base.Fraction.{full_share}
use base.FractionLaws.{Counts}
use base.Share as half
use base.Logic.{SProp, wand, ex, guard, upd_i, apply∗, id⊢}
use base.Fml.{Lft, Share, Incl, Incl-refl, Incl-trans, Mask, Key, Fml, ftrue, fsep, fseps, fex, fwand, fupd, fdead}
use base.Fml.{fbor, flft, ftok, fshr_bor}
use base.Before.{before}
use base.Mask.{every, just, less, take}
use contract.BorrowLft.{meet_⊑_left, meet_⊑_right, ⊑_meet}
use ghost.Rules.{Toks, span}
use types.Logic.{Logic, lfts}
use types.Kit.{some, given, pick, drop, show, check, learn, frame, ‵, raw, ◌⊛◌, later, ◌$◌, ◌∵◌, !, qed, by, move}
use types.Kit.{keep, use0, use1, use2, use3, split, split3, join, group, fsplit, fsplit3, fjoin, fjoin3, fpick, fpack}
use types.Kit.{assume, suffices, await, updating, now, rewrite, done}
use types.Tokens.{bor_open, obor_close, obor_alter, bor_fracture, shr_bor_shorten, shr_bor_dup, one_token}
use types.Frac.{shr_bor-Acc_by}
use types.Na.{na_inv, na_inv_new, na_inv_acc, before-Incl, before_acc, before_dup, before_shorten}
use types.Within.{tokens_halve}
use denote.Hidden as hidden
use denote.RattleType.{RattleType, RowLaws}
use denote.Moves.{moves, moves_before}
use denote.Shares.{Shares}
use denote.Sharing.{ShrLaws}
use denote.Sharing as sharing
use denote.SharingLaws.{beside_shr_laws, some_shr_laws, one_shr_laws, ends_shr_laws, nothing_shr_laws, within_shr_laws}
use denote.SharingLaws.{contraction, shortens}
use denote.Steps.{nothing}
use denote.Struct.Lending.{Lends, Lends-nothing, Lends-first}
use Rattle.core.proofs.cell.Borrows.{by_one}
use Rattle.counted_slot.specs.Counting.{tag, parts}
use Rattle.counted_slot.proofs.Parts.{parts_in}
use Rattle.lent_table.specs.Table.{Hold, none, reads, writes, value_of}
use Rattle.lent_table.specs.Lending.{TableId, age, shows, reading, writing, counted, hold_owns, lit, stage, staged}
use Rattle.lent_table.specs.Lending.{hold_shares}
use Rattle.lent_table.proofs.Rounds.{told_value}
use Rattle.lent_table.proofs.Signs.{signs, table_signs}

module _ (R : RattleType) (L : RowLaws R) (z : TableId) where
  lit_laws : (x : R.Denot) (a : ℕ) → ShrLaws (lit R z x a)
  lit_laws x a = beside_shr_laws (sharing.one (λ q. flft (a ∷ []) q)) (sharing.within (a ∷ age z) (shows R z x))
      (one_shr_laws (λ q. flft (a ∷ []) q))
      (within_shr_laws (a ∷ age z) (shows R z x) (L x z.block z.offset))

  staged_laws : (x : R.Denot) (κ : Lft) → ShrLaws (staged R z x κ)
  staged_laws x κ = let Within : Fml = fex Bool (stage R z x κ) in let at : Key = (z.block, z.offset) in
      beside_shr_laws (sharing.ends κ) (hidden.kept at Within) (ends_shr_laws κ) (hidden.kept_shr_laws at Within)

  pub shares_laws : (o : Hold R.Denot) → ShrLaws (hold_shares R z o)
  shares_laws none = nothing_shr_laws
  shares_laws (reads x) = some_shr_laws ℕ (lit R z x) (lit_laws x)
  shares_laws (writes x) = some_shr_laws Lft (staged R z x) (staged_laws x)

-- the value that a seat may see
pub seen_in : {T : Type 0} (o : Hold T) → IsSome (value_of o) → (x : T) × (value_of o ≡ Some x)
seen_in none is = absurd (true≢false (sym is))
seen_in (reads x) is = (x, refl)
seen_in (writes x) is = (x, refl)

some_same : {T : Type 0} (x y : T) → Some y ≡ Some x → y ≡ x
some_same x y e = cc

none_some : {T : Type 0} (x : T) → None ≡ Some x → ⊥
none_some x e = cc

module _ {M : Type 1} {𝓤 : Ura M} (𝓛 : Logic 𝓤) (R : RattleType) (L : RowLaws R) (z : TableId) where
  open 𝓛 use {H, A}
  open signs 𝓛 use {⟦◌⟧, ◌∗◌, ◌⊢◌}
  open table_signs R z use {T, γ, α, V, C, At, Obs}

  -- the token of the age lasts for κ
  abbrev Lasts : Lft → Fml
  Lasts κ = fshr_bor κ (λ q. flft α q)

  module _ (x : T) (ν : Lft) where
    abbrev P : Fml
    P = fex ℕ (reading R z x)

    again : (u : ℕ) (e : Share) → Counts 63 e 1 → ⟦ tag γ e u ⟧ ∗ ⟦ V x (u ∷ α) ⟧
        ⊢ ⟦ fwand (fsep (fdead ν) (fseps (flft (u ∷ []) e ∷ []))) (fupd P) ⟧
    unfolding fseps
    again u e c = qed 𝓛 (‵ (tag γ e u) ∷ ‵ (V x (u ∷ α)) ∷ []) ∵
        assume ! (‵ (fsep (fdead ν) (fsep (flft (u ∷ []) e) ftrue))) $
        suffices ! ⟦ P ⟧ (upd_i 𝓤 ⟦ P ⟧) $ fsplit3 ! $ move ! (1 ∷ 3 ∷ []) $ fjoin ! $
        use1 𝓛 (‵ (parts γ u 1)) (parts_in 𝓛 γ u 1 e c) $
        move ! (0 ∷ 3 ∷ []) $ fjoin ! $ fpack ! ℕ (reading R z x) u $ keep ! (0 ∷ []) $ done !

    -- a borrow of a reader's part shows the value, and that the round lasts
    lights : (q : Share) → A.bor ν P ∗ A.lft ν q ⊢ H.⇛ (⟦ fex ℕ (λ a. lit R z x a ν) ⟧ ∗ A.lft ν q)
    unfolding fseps
    lights q = qed 𝓛 (‵ (fbor ν P) ∷ ‵ (flft ν q) ∷ []) ∵ updating ! $ bor_open ! tt $ move ! (1 ∷ []) $
        fpick ! (λ u. fsplit ! $ fpick ! (λ e. fpick ! (λ c. fsplit ! $
        move ! (2 ∷ []) $ use1 𝓛 (‵ (V x (u ∷ α)) ⊛ ‵ (V x (u ∷ α)))
        (contraction 𝓛 (V x) (L x z.block z.offset) (u ∷ α)) $ split ! $ move ! (3 ∷ 0 ∷ []) $
        use2 𝓛 (‵ (fwand (fsep (fdead ν) (fseps (flft (u ∷ []) e ∷ []))) (fupd P))) (again u e c) $ nothing ! $
        move ! (3 ∷ 0 ∷ []) $ fjoin ! $
        move ! (3 ∷ 0 ∷ 1 ∷ []) $ obor_alter ! tt (flft (u ∷ []) e ∷ []) $
        use1 𝓛 (‵ (fbor ν (flft (u ∷ []) e)) ⊛ ‵ ftrue) (id⊢ 𝓤 _) $ split ! $
        bor_fracture ! tt (λ r. flft (u ∷ []) r) e $ move ! (3 ∷ []) $
        use1 𝓛 (‵ (V x (ν ++ (u ∷ α)))) (shortens 𝓛 (V x) (L x z.block z.offset) (u ∷ α) (ν ++ (u ∷ α))
        (meet_⊑_right ν (u ∷ α))) $
        move ! (1 ∷ 0 ∷ []) $ fjoin ! $ fpack ! ℕ (λ a. lit R z x a ν) u $ now ! $ keep ! (0 ∷ 2 ∷ []) $ done !)))

    -- where the age lasts too, the value is shown for as long as the seat
    lit_shows : ⟦ Lasts ν ⟧ ∗ ⟦ fex ℕ (λ a. lit R z x a ν) ⟧ ⊢ ⟦ V x ν ⟧
    lit_shows = qed 𝓛 (‵ (Lasts ν) ∷ ‵ (fex ℕ (λ a. lit R z x a ν)) ∷ []) ∵ move ! (1 ∷ []) $
        fpick ! (λ u. fsplit ! $
        let w : Lft = (u ∷ []) ++ ν in let c : Lft = α ++ w in
        let in_round : Incl c (u ∷ α) = ⊑_meet c (u ∷ []) α
        (Incl-trans (meet_⊑_right α w) (meet_⊑_left (u ∷ []) ν)) (meet_⊑_left α w) in
        move ! (1 ∷ []) $ use1 𝓛 (‵ (V x c)) (shortens 𝓛 (V x) (L x z.block z.offset) (ν ++ (u ∷ α)) c
        (⊑_meet c ν (u ∷ α) (Incl-trans (meet_⊑_right α w) (meet_⊑_right (u ∷ []) ν)) in_round)) $
        move ! (2 ∷ []) $ shr_bor_shorten ! w (meet_⊑_right (u ∷ []) ν) $ move ! (0 ∷ 1 ∷ []) $
        use2 𝓛 (‵ (V x w)) (moves 𝓛 (V x) (L x z.block z.offset) w α) $
        move ! (1 ∷ 0 ∷ []) $ by ! (moves 𝓛 (V x) (L x z.block z.offset) ν (u ∷ [])))

  module _ (x : T) where
    abbrev W : Fml
    W = fex ℕ (writing R z x)

    with_tag : (ν : Lft) (c : ℕ)
        → ⟦ tag γ full_share c ⟧ ⊢ ⟦ fwand (fsep (fdead ν) (fseps ((Obs x) ∷ fbor α C ∷ []))) (fupd W) ⟧
    unfolding fseps
    with_tag ν c = qed 𝓛 (‵ (tag γ full_share c) ∷ []) ∵
        assume ! (‵ (fsep (fdead ν) (fsep (Obs x) (fsep (fbor α C) ftrue)))) $ suffices ! ⟦ W ⟧ (upd_i 𝓤 ⟦ W ⟧) $
        fsplit ! $ drop ! $ fsplit3 ! $ move ! (3 ∷ 0 ∷ 1 ∷ []) $ fjoin3 ! $ fpack ! ℕ (writing R z x) c $
        keep ! (0 ∷ []) $ done !

    -- a borrow of what a writer has is one of the value
    bares : (ν : Lft) → Incl ν α → (q : Share) → A.bor ν W ∗ A.lft ν q ⊢ H.⇛ (A.bor ν (At x) ∗ A.lft ν q)
    unfolding fseps
    bares ν within q = qed 𝓛 (‵ (fbor ν W) ∷ ‵ (flft ν q) ∷ []) ∵ updating ! $ bor_open ! tt $ move ! (1 ∷ []) $
        fpick ! (λ c. fsplit3 ! $
        use1 𝓛 (‵ (fwand (fsep (fdead ν) (fseps ((Obs x) ∷ fbor α C ∷ []))) (fupd W))) (with_tag ν c) $ nothing ! $
        move ! (3 ∷ 0 ∷ []) $ fjoin ! $ move ! (2 ∷ 0 ∷ []) $ fjoin ! $ move ! (2 ∷ 0 ∷ 1 ∷ []) $
        obor_alter ! tt ((Obs x) ∷ fbor α C ∷ []) $
        use1 𝓛 (‵ (fbor ν (Obs x)) ⊛ ‵ (fbor ν (fbor α C)) ⊛ ‵ ftrue) (id⊢ 𝓤 _) $ split3 ! $ move ! (1 ∷ 3 ∷ []) $
        use2 𝓛 (later (‵ (fbor ν C) ⊛ ‵ (flft ν q))) (𝓛.more.bor_unnest α ν q C within) $ await ! tt $ split ! $
        -- [the borrow; the token; the borrow of what the name says]
        let l : Share = half.left q in let r : Share = half.right q in
        move ! (1 ∷ []) $ use1 𝓛 (‵ (flft ν l) ⊛ ‵ (flft ν r)) (𝓛.lfts.lft_split ν q) $ split ! $
        move ! (3 ∷ 0 ∷ []) $ bor_open ! tt $ move ! (3 ∷ 1 ∷ []) $ join ! $ move ! (0 ∷ 2 ∷ []) $
        use2 𝓛 (later ((‵ (fbor ν (At x)) ⊛ ‵ (Obs x)) ⊛ ‵ (flft ν r))) (told_value 𝓛 R L z x ν r) $ await ! tt $
        split ! $ split ! $ move ! (3 ∷ 1 ∷ []) $ obor_close ! tt $ drop ! $ move ! (0 ∷ 2 ∷ []) $
        use2 𝓛 (‵ (flft ν q)) (𝓛.lfts.lft_join ν q) $ now ! $ keep ! (1 ∷ 0 ∷ []) $ done !)

    module _ (l : Lft) (shares : Shares 𝓛 R l) (κ : Lft) where
      abbrev ν : Lft
      ν = κ ++ α

      abbrev Stages : Fml
      Stages = fex Bool (stage R z x κ)

      abbrev at : Key
      at = (z.block, z.offset)

      module _ (ts : Toks) (lives : Incl (span ts) l) (sp : Incl (span ts) ν) where
        shared : (b : Bool) → ⟦ stage R z x κ b ⟧ ∗ lfts 𝓛 ts ⊢ H.⇛ (⟦ V x ν ⟧ ∗ lfts 𝓛 ts)
        shared true = 𝓛.laws.⇛_intro _
        shared false = qed 𝓛 (‵ (fbor κ W) ∷ raw (lfts 𝓛 ts) ∷ []) ∵ updating ! $
            use1 𝓛 (‵ (fbor ν W)) (𝓛.bors.bor_shorten κ ν W (meet_⊑_left κ α)) $
            use2 𝓛 (later (‵ (fbor ν (At x)) ⊛ raw (lfts 𝓛 ts)))
            (by_one 𝓛 ν ts sp (A.bor ν W) (A.bor ν (At x)) (bares ν (meet_⊑_right κ α))) $ await ! tt $ split ! $
            use2 𝓛 (later (‵ (V x ν) ⊛ raw (lfts 𝓛 ts))) (shares x ν ts z.block z.offset lives sp) $ await ! tt $
            now ! $ done !

        -- the thread's token opens what is kept, and the value stays shared
        opened : ⟦ na_inv at Stages ⟧ ∗ lfts 𝓛 ts ∗ A.tok every ⊢ H.⇛ (⟦ V x ν ⟧ ∗ lfts 𝓛 ts ∗ A.tok every)
        opened = let One : Mask = just at in let Rest : Mask = less every at in
            qed 𝓛 (‵ (na_inv at Stages) ∷ raw (lfts 𝓛 ts) ∷ ‵ (ftok every) ∷ []) ∵ updating ! $ move ! (2 ∷ []) $
            use1 𝓛 (‵ (ftok One) ⊛ ‵ (ftok Rest)) (𝓛.invs.tok_cut every One Rest (take every at refl)) $ split ! $
            move ! (2 ∷ 0 ∷ []) $ use2 𝓛 (later (‵ Stages ⊛ raw (wand 𝓤 ⟦ Stages ⟧ (H.⇛ (A.tok One)))))
            (na_inv_acc 𝓛 at Stages) $ await ! tt $ split ! $ fpick ! (λ b. move ! (0 ∷ 3 ∷ []) $
            use2 𝓛 (later (‵ (V x ν) ⊛ raw (lfts 𝓛 ts))) (shared b) $ await ! tt $ split ! $
            use1 𝓛 (‵ (V x ν) ⊛ ‵ (V x ν)) (contraction 𝓛 (V x) (L x z.block z.offset) ν) $ split ! $
            fpack ! Bool (stage R z x κ) true $ move ! (0 ∷ 3 ∷ []) $
            use2 𝓛 (later (‵ (ftok One))) (apply∗ 𝓤 ⟦ Stages ⟧ (H.⇛ (A.tok One))) $ await ! tt $
            move ! (0 ∷ 3 ∷ []) $ use2 𝓛 (‵ (ftok every)) (𝓛.invs.tok_glue every One Rest (take every at refl)) $
            now ! $ move ! (1 ∷ 2 ∷ 0 ∷ []) $ done !)

  -- tokens of a `&`'s lifetime μ and of τ, and that the age lasts for μ, are tokens within κ and the age
  module _ (l κ μ : Lft) (q : Share) (τ : Lft) (r : Share) (in_l : Incl τ l) where
    abbrev Two : SProp 𝓤
    Two = A.lft μ q ∗ A.lft τ r

    abbrev Lives : Toks → Type 0
    Lives ts = Incl (span ts) l × Incl (span ts) (κ ++ α)

    abbrev Held : Toks → SProp 𝓤
    Held ts = guard 𝓤 (Lives ts) (lfts 𝓛 ts ∗ wand 𝓤 (lfts 𝓛 ts) (H.⇛ Two))

    tokens : ⟦ before μ κ ⟧ ∗ ⟦ Lasts μ ⟧ ∗ Two ⊢ H.⇛ (ex 𝓤 Held)
    tokens = let e : Share = half.left q in let f : Share = half.right q in
        qed 𝓛 (‵ (before μ κ) ∷ ‵ (Lasts μ) ∷ ‵ (flft μ q) ∷ ‵ (flft τ r) ∷ []) ∵ updating ! $ move ! (2 ∷ []) $
        use1 𝓛 (‵ (flft μ e) ⊛ ‵ (flft μ f)) (𝓛.lfts.lft_split μ q) $ split ! $ move ! (3 ∷ 0 ∷ []) $
        use2 𝓛 (later (some (λ (s : Share). ‵ (flft α s) ⊛ raw (wand 𝓤 (A.lft α s) (H.⇛ (A.lft μ e))))))
        (shr_bor-Acc_by 𝓛 (λ s. flft α s) (tokens_halve 𝓛 α) μ ((μ, e) ∷ []) (Incl-refl μ)) $ await ! tt $
        pick ! (λ s. split ! $ move ! (3 ∷ 2 ∷ []) $
        use2 𝓛 (later (some (λ (us : Toks). given (Incl (span us) κ)
        (raw (lfts 𝓛 us) ⊛ raw (wand 𝓤 (lfts 𝓛 us) (H.⇛ (A.lft μ f)))))))
        (before_acc 𝓛 μ κ ((μ, f) ∷ []) (Incl-refl μ)) $ await ! tt $ pick ! (λ us. learn ! (λ in_κ. split ! $
        use1 𝓛 (some (λ (p : Share). ‵ (flft (span us) p) ⊛ raw (wand 𝓤 (A.lft (span us) p) (lfts 𝓛 us))))
        (one_token 𝓛 us) $ pick ! (λ p. split ! $
        -- [the tokens within κ, as one; the way back, and on; that of the age; its way back; that of τ]
        let σ : Lft = span us in let ts : Toks = (σ, p) ∷ (α, s) ∷ (τ, r) ∷ [] in let rest : Lft = α ++ τ in
        let lives : Lives ts = (
          Incl-trans (meet_⊑_right σ rest) (Incl-trans (meet_⊑_right α τ) in_l),
          ⊑_meet (span ts) κ α (Incl-trans (meet_⊑_left σ rest) in_κ)
              (Incl-trans (meet_⊑_right σ rest) (meet_⊑_left α τ)),
        ) in
        move ! (0 ∷ 3 ∷ 5 ∷ []) $ group ! 3 $ now ! $ show ! Held ts $ check ! lives $ frame ! $
        assume ! (‵ (flft σ p) ⊛ ‵ (flft α s) ⊛ ‵ (flft τ r)) $ updating ! $ split3 ! $ move ! (0 ∷ 3 ∷ []) $
        use2 𝓛 (raw (lfts 𝓛 us)) (apply∗ 𝓤 (A.lft σ p) (lfts 𝓛 us)) $ move ! (0 ∷ 3 ∷ []) $
        use2 𝓛 (later (‵ (flft μ f))) (apply∗ 𝓤 (lfts 𝓛 us) (H.⇛ (A.lft μ f))) $ await ! tt $ move ! (1 ∷ 3 ∷ []) $
        use2 𝓛 (later (‵ (flft μ e))) (apply∗ 𝓤 (A.lft α s) (H.⇛ (A.lft μ e))) $ await ! tt $
        use2 𝓛 (‵ (flft μ q)) (𝓛.lfts.lft_join μ q) $ now ! $ done !))))

  module _ (l : Lft) (shares : Shares 𝓛 R l) (μ : Lft) (q : Share) (τ : Lft) (r : Share) (in_l : Incl τ l) where
    abbrev Three : SProp 𝓤
    Three = A.lft μ q ∗ A.lft τ r ∗ A.tok every

    written_shows : (x : T) → ⟦ Lasts μ ⟧ ∗ ⟦ hold_shares R z (writes x) μ ⟧ ∗ Three ⊢ H.⇛ (⟦ V x μ ⟧ ∗ Three)
    written_shows x = let Two : SProp 𝓤 = A.lft μ q ∗ A.lft τ r in
        qed 𝓛 (‵ (Lasts μ) ∷ ‵ (hold_shares R z (writes x) μ) ∷ ‵ (flft μ q) ∷ ‵ (flft τ r) ∷ ‵ (ftok every) ∷ []) ∵
        updating ! $ shr_bor_dup ! $ move ! (2 ∷ []) $ fpick ! (λ κ. let ν : Lft = κ ++ α in fsplit ! $
        use1 𝓛 (‵ (before μ κ) ⊛ ‵ (before μ κ)) (before_dup 𝓛 μ κ) $ split ! $ move ! (0 ∷ 3 ∷ 5 ∷ 6 ∷ []) $
        group ! 4 $ use1 𝓛 (later (some (λ (ts : Toks). given (Lives l κ μ q τ r in_l ts)
        (raw (lfts 𝓛 ts) ⊛ raw (wand 𝓤 (lfts 𝓛 ts) (H.⇛ Two)))))) (tokens l κ μ q τ r in_l) $ await ! tt $
        pick ! (λ ts. learn ! (λ lives. split ! $
        -- [the tokens; the way back; before; what is kept; that the age lasts; the thread's token]
        move ! (3 ∷ 0 ∷ 5 ∷ []) $ use3 𝓛 (later (‵ (V x ν) ⊛ raw (lfts 𝓛 ts) ⊛ ‵ (ftok every)))
        (opened x l shares κ ts lives.0 lives.1) $ await ! tt $ split3 ! $ move ! (1 ∷ 3 ∷ []) $
        use2 𝓛 (later (‵ (flft μ q) ⊛ ‵ (flft τ r))) (apply∗ 𝓤 (lfts 𝓛 ts) (H.⇛ Two)) $ await ! tt $ split ! $
        -- [the two tokens; the value; the thread's token; before; that the age lasts]
        let c : Lft = α ++ μ in move ! (2 ∷ []) $
        use1 𝓛 (‵ (V x (c ++ κ))) (shortens 𝓛 (V x) (L x z.block z.offset) ν (c ++ κ)
        (⊑_meet (c ++ κ) κ α (meet_⊑_right c κ) (Incl-trans (meet_⊑_left c κ) (meet_⊑_left α μ)))) $
        move ! (4 ∷ []) $ use1 𝓛 (‵ (before c κ)) (before_shorten 𝓛 μ c κ (meet_⊑_right α μ)) $
        use2 𝓛 (‵ (V x c)) (moves_before 𝓛 (V x) (L x z.block z.offset) c κ) $ move ! (4 ∷ 0 ∷ []) $
        use2 𝓛 (‵ (V x μ)) (moves 𝓛 (V x) (L x z.block z.offset) μ α) $ now ! $ keep ! (0 ∷ 1 ∷ 2 ∷ 3 ∷ []) $ done !)))

    -- where the age lasts for as long as a `&` to a seat, the value that the seat may see is shown for as long
    pub sees : (o : Hold T) (x : T) → value_of o ≡ Some x
        → ⟦ Lasts μ ⟧ ∗ ⟦ hold_shares R z o μ ⟧ ∗ Three ⊢ H.⇛ (⟦ V x μ ⟧ ∗ Three)
    sees none x is = absurd (none_some x is)
    sees (reads y) x is = qed 𝓛 (‵ (Lasts μ) ∷ ‵ (hold_shares R z (reads y) μ) ∷ raw Three ∷ []) ∵ updating ! $
        use2 𝓛 (‵ (V y μ)) (lit_shows y μ) $
        rewrite ! 0 (λ (u : T). ‵ (V u μ)) (some_same x y is) refl $ now ! $ done !
    sees (writes y) x is = qed 𝓛 (‵ (Lasts μ) ∷ ‵ (hold_shares R z (writes y) μ) ∷ raw Three ∷ []) ∵ updating ! $
        use3 𝓛 (later (‵ (V y μ) ⊛ raw Three)) (written_shows y) $ await ! tt $ split ! $
        rewrite ! 0 (λ (u : T). ‵ (V u μ)) (some_same x y is) refl $ now ! $ done !

  stages : (x : T) (l : Lft) → Lends 𝓛 (hold_owns R z (writes x)) (hold_shares R z (writes x)) l
  stages x l κ ts inc sp = let at : Key = (z.block, z.offset) in let Q : Fml = fex Bool (stage R z x κ) in
      qed 𝓛 (‵ (fbor κ (fex ℕ (writing R z x))) ∷ raw (lfts 𝓛 ts) ∷ []) ∵ updating ! $
      fpack ! Bool (stage R z x κ) false $ use1 𝓛 (later (‵ (na_inv at Q))) (na_inv_new 𝓛 at Q) $ await ! tt $
      use0 𝓛 (‵ (before κ κ)) (before-Incl 𝓛 κ κ (Incl-refl κ)) $ fjoin ! $ fpack ! Lft (λ μ. staged R z x μ κ) κ $
      now ! $ done !

  pub Lends-hold : (l : Lft) (o : Hold T) → Lends 𝓛 (hold_owns R z o) (hold_shares R z o) l
  Lends-hold l none = Lends-nothing 𝓛 ftrue l
  Lends-hold l (reads x) = Lends-first 𝓛 (fex ℕ (reading R z x)) (counted R z 1) (hold_shares R z (reads x)) l
      (λ κ ts inc sp. by_one 𝓛 κ ts sp (A.bor κ (fex ℕ (reading R z x))) ⟦ fex ℕ (λ a.
      lit R z x a κ) ⟧ (lights x κ))
  Lends-hold l (writes x) = stages x l
