-- A table is made of two plots, and gives them back. Assumes `Logic`.
use Rattle.std.proofs.Common.{◌≡◌, ℕ, ◌-◌, ◌^◌, List, [], ◌∷◌, sym, refl, ◌∙◌, subst}
use seplogic.Ra.Ura.{Ura}
use base.Fraction.{full_share}
use base.Share.{quarter, three_quarters}
use base.Stored.{Coded}
use base.Logic.{SProp, ex, guard, via}
use base.Fml.{Lft, Share, Incl, Incl-refl, Fml, ftrue, fsep, fdead, fbor, finv, flft, fauth}
use types.Logic.{Logic}
use types.Kit.{‵, ◌⊛◌, some, given, later, ◌$◌, ◌∵◌, !, qed, move, keep, drop, split, split3, fsplit, fsplit3, join}
use types.Kit.{fjoin, fjoin3, fpick, fpack, pick, learn, show, check, use0, use1, use2, use3, updating, await, now}
use types.Kit.{rewrite, done}
use types.Tokens.{lft_new, lft_end, name_new, name_agree, bor_new, lent_back}
use types.Keyed.{entries_new, entries_take}
use types.Owned.{basic, own_new}
use denote.RattleType.{RattleType, RowLaws}
use denote.Builtin.{u64}
use denote.Memory.{part_at}
use denote.RawPtr.{Ptr, block_of, count_of, InBlock, at_block, lies_at}
use denote.Shares.{Shares}
use denote.Steps.{nothing}
use Rattle.core.specs.Sync.RawAtomic.{word}
use Rattle.core.proofs.tally.Steps.{word_out, word_in}
use Rattle.atomic_table.specs.Seated.{halved, seen, unused, roster}
use Rattle.atomic_table.proofs.Roster.{resets}
use Rattle.counted_slot.specs.Counting.{rounds, tag, parts}
use Rattle.counted_slot.proofs.Parts.{parts_in}
use base.FractionLaws.{Counts-all}
use Rattle.lent_table.specs.Table.{Home, away, lent, none, State, opening, Closes}
use Rattle.lent_table.specs.Lending.{TableId, age, writing, home_owns, Placed, seat_owns, standing, inner, common}
use Rattle.lent_table.specs.Lending.{rights, table_owns, has_ended}
use Rattle.lent_table.specs.inner.Lending.{plot_owns}
use Rattle.lent_table.proofs.Rounds.{first_round}
use Rattle.lent_table.proofs.Signs.{signs, spot}

lent_value : {T : Type 0} (m n : ℕ) (x y : T) → lent m x ≡ lent n y → x ≡ y
lent_value m n x y e = cc

not_lent : {T : Type 0} (n : ℕ) (y : T) → away ≡ lent n y → ⊥
not_lent n y e = cc

module _ {M : Type 1} {𝓤 : Ura M} (𝓛 : Logic 𝓤) (R : RattleType) where
  open signs 𝓛 use {⟦◌⟧, ◌⊢◌}

  abbrev pub Lain : Ptr → R.Denot → SProp 𝓤
  Lain p x = guard 𝓤 (InBlock p) ⟦ part_at R full_share x (block_of p) (count_of p) ⟧

  pub plot_lies : (p : Ptr) (x : R.Denot) → ⟦ plot_owns R p x ⟧ ⊢ Lain p x
  plot_lies p x = qed 𝓛 (‵ (plot_owns R p x) ∷ []) ∵ fsplit ! $ fpick ! (λ at. drop ! $ check ! at $
      rewrite ! 0 (λ (r : Ptr). ‵ (lies_at R full_share r x)) (at_block p at) refl $ done !)

  -- a plot's pointer is one
  pub plot_is : (p : Ptr) (x : R.Denot) → ⟦ plot_owns R p x ⟧ ⊢ guard 𝓤 (InBlock p) ⟦ plot_owns R p x ⟧
  plot_is p x = qed 𝓛 (‵ (plot_owns R p x) ∷ []) ∵ fsplit ! $ fpick ! (λ at. check ! at $
      fpack ! (InBlock p) (λ _. ftrue) at $ done !)

  pub plot_in : (p : Ptr) (x : R.Denot) → InBlock p → ⟦ part_at R full_share x (block_of p) (count_of p) ⟧
      ⊢ ⟦ plot_owns R p x ⟧
  plot_in p x at = qed 𝓛 (‵ (part_at R full_share x (block_of p) (count_of p)) ∷ []) ∵
      rewrite ! 0 (λ (r : Ptr). ‵ (lies_at R full_share r x)) (sym (at_block p at)) refl $ nothing ! $
      fpack ! (InBlock p) (λ _. ftrue) at $ fjoin ! $ done !

module _ {M : Type 1} {𝓤 : Ura M} (𝓛 : Logic 𝓤) (R : RattleType) {V : Type 0} (cv : Coded V)
    (holds : State R.Denot V → Type 0) (w p : Ptr) where
  open 𝓛 use {H, A}
  open signs 𝓛 use {⟦◌⟧, ◌∗◌, ◌⊢◌}
  open spot w use {b, o}

  module _ (L : RowLaws R) (l : Lft) (shares : Shares 𝓛 R l) (τ : Lft) (r : Share) (lives : Incl τ l) (n : ℕ)
      (x : R.Denot) (v : V) where
    abbrev pub Dealt : TableId → SProp 𝓤
    Dealt z = guard 𝓤 (InBlock w × InBlock p)
        (⟦ table_owns R cv.code holds w p z ⟧ ∗ ⟦ seat_owns R cv.code z 0 (v, none) ⟧ ∗ A.lft τ r)

    pub deals : holds (opening n v x)
        → ⟦ plot_owns u64 w n ⟧ ∗ ⟦ plot_owns R p x ⟧ ∗ A.lft τ r ⊢ H.⇛ (ex 𝓤 Dealt)
    unfolding Rattle.lent_table.specs.Lending.under
    deals good = qed 𝓛 (‵ (plot_owns u64 w n) ∷ ‵ (plot_owns R p x) ∷ ‵ (flft τ r) ∷ []) ∵ updating ! $
        use1 𝓛 (given (InBlock w) (‵ (part_at u64 full_share n b o))) (plot_lies 𝓛 u64 w n) $
        learn ! (λ in_w. use1 𝓛 (‵ (word b o n)) (word_out 𝓛 b o n) $
        move ! (1 ∷ []) $ use1 𝓛 (given (InBlock p) (‵ (part_at R full_share x (block_of p) (count_of p))))
        (plot_lies 𝓛 R p x) $ learn ! (λ in_p.
        -- the value: its borrow, its name, and the right to have it back
        lft_new ! tt (λ a. let κ : Lft = a ∷ [] in name_new ! tt (R.coded.code x) (λ δ. move ! (3 ∷ 1 ∷ []) $ fjoin ! $
        fpack ! R.Denot (λ y. fsep (part_at R full_share y (block_of p) (count_of p)) (fauth δ (R.coded.code y)))
        x $ bor_new ! tt κ $
        -- the names of the views and of the round
        use0 𝓛 (later (some (λ (γ : ℕ). ‵ (unused cv.code γ 0 v))))
        (via 𝓤 _ (entries_new halved 𝓛 0 (λ _. (full_share, cv.code v)))
        (basic 𝓛 (ex 𝓤 (λ (γ : ℕ). ⟦ unused cv.code γ 0 v ⟧)))) $ await ! tt $ pick ! (λ γ.
        use1 𝓛 (‵ (seen cv.code γ 0 full_share v) ⊛ ‵ (unused cv.code γ 1 v)) (entries_take halved 𝓛 γ 0 (λ _.
        (full_share, cv.code v))) $ split ! $
        let Quarter : Fml = seen cv.code γ 0 quarter v in let Most : Fml = seen cv.code γ 0 three_quarters v in
        use1 𝓛 (later (‵ Quarter ⊛ ‵ Most)) (via 𝓤 _ (resets 𝓛 cv γ 0 v v)
        (basic 𝓛 (⟦ Quarter ⟧ ∗ ⟦ Most ⟧))) $ await ! tt $ split ! $
        move ! (2 ∷ []) $ fpack ! V (unused cv.code γ 1) v $ move ! (1 ∷ 0 ∷ []) $ fjoin ! $
        use0 𝓛 (later (some (λ (ρ : ℕ). ‵ (tag ρ full_share 0))))
        (via 𝓤 _ (own_new 𝓛 rounds (full_share, 0)) (basic 𝓛 (ex 𝓤 (λ (ρ : ℕ). ⟦ tag ρ full_share 0 ⟧)))) $
        await ! tt $ pick ! (λ ρ.
        -- the parts by which readers are counted
        lft_new ! tt (λ e. use0 𝓛 (later (some (λ (σ : ℕ). ‵ (tag σ full_share e))))
        (via 𝓤 _ (own_new 𝓛 rounds (full_share, e)) (basic 𝓛 (ex 𝓤 (λ (σ : ℕ). ⟦ tag σ full_share e ⟧)))) $
        await ! tt $ pick ! (λ σ. move ! (1 ∷ 0 ∷ []) $ fjoin ! $
        use1 𝓛 (‵ (parts σ e (2 ^ 63 - 0))) (parts_in 𝓛 σ e (2 ^ 63) full_share (Counts-all 63)) $
        let z : TableId = record {
          atom = a;
          block = block_of p;
          offset = count_of p;
          views_name = γ;
          round_name =
              ρ;
          value_name = δ;
          count_atom = e;
          count_name = σ;
        } in
        let s : State R.Denot V = opening n v x in let I : Fml = inner R cv.code holds w p z in
        -- the first round
        move ! (1 ∷ 6 ∷ 4 ∷ []) $ fjoin3 ! $ fpack ! ℕ (writing R z x) 0 $ move ! (1 ∷ []) $ nothing ! $ fjoin ! $
        join ! $ move ! (0 ∷ 4 ∷ 6 ∷ []) $
        use3 𝓛 (later (‵ (home_owns R z (lent 0 x)) ⊛ ‵ (flft κ full_share) ⊛ ‵ (flft τ r)))
        (first_round 𝓛 R L z l shares κ full_share τ r (Incl-refl κ) lives x) $ await ! tt $ split3 ! $
        -- the invariant
        move ! (0 ∷ 3 ∷ []) $ fjoin ! $ nothing ! $ fpack ! (holds s) (λ _. ftrue) good $
        move ! (6 ∷ 1 ∷ 0 ∷ []) $ fjoin3 ! $
        fpack ! (State R.Denot V) (standing R cv.code holds w p z) s $ bor_new ! tt κ $
        use1 𝓛 (later (‵ (finv (fbor κ I)))) (𝓛.invs.inv_new (fbor κ I)) $ await ! tt $
        nothing ! $ fpack ! (Placed w p z) (λ _. ftrue) (in_w, at_block p in_p) $ fjoin ! $
        -- [what is common; the right to the word; the age's token; that of R; the view; the right to the value]
        move ! (1 ∷ 5 ∷ []) $ fjoin ! $ move ! (2 ∷ 1 ∷ 0 ∷ []) $ fjoin3 ! $ move ! (2 ∷ []) $ nothing ! $ fjoin ! $
        now ! $ show ! Dealt z $ check ! (in_w, in_p) $ keep ! (1 ∷ 0 ∷ 2 ∷ []) $ done !))))))))

  module _ (z : TableId) where
    abbrev Told : Home R.Denot → R.Denot → Type 0
    Told h x = (m : ℕ) (y : R.Denot) → h ≡ lent m y → x ≡ y

    -- a value that is lent is what its name says
    home_tells : (h : Home R.Denot) (x : R.Denot)
        → ⟦ home_owns R z h ⟧ ∗ ⟦ fauth z.value_name (R.coded.code x) ⟧ ⊢ guard 𝓤 (Told h x) ⟦ ftrue ⟧
    home_tells away x = qed 𝓛 (‵ (home_owns R z away) ∷ ‵ (fauth z.value_name (R.coded.code x)) ∷ []) ∵
        check ! (λ m y e. absurd (not_lent m y e)) $ nothing ! $ keep ! (0 ∷ []) $ done !
    home_tells (lent m y) x = qed 𝓛 (‵ (home_owns R z (lent m y)) ∷ ‵ (fauth z.value_name (R.coded.code x)) ∷ []) ∵
        fsplit ! $ fpick ! (λ a. fsplit3 ! $ move ! (2 ∷ []) $ fsplit ! $ move ! (0 ∷ 5 ∷ []) $
        name_agree ! R.coded (λ same.
        check ! (λ k u e. sym same ∙ lent_value m k y u e) $ nothing ! $ keep ! (0 ∷ []) $ done !))

    abbrev pub Gathered : ℕ × R.Denot × List V → SProp 𝓤
    Gathered t = guard 𝓤 (Closes holds t.0 t.1 t.2 × InBlock w × InBlock p)
        (⟦ plot_owns u64 w t.0 ⟧ ∗ ⟦ plot_owns R p t.1 ⟧ ∗ ⟦ has_ended cv.code z t.2 ⟧)

    abbrev Whole : Fml
    Whole = table_owns R cv.code holds w p z

    pub table_lies : ⟦ Whole ⟧ ⊢ guard 𝓤 (InBlock w × InBlock p) ⟦ Whole ⟧
    unfolding Rattle.lent_table.specs.Lending.under
    table_lies = qed 𝓛 (‵ (flft (age z) full_share) ∷ ‵ (common R cv.code holds w p z)
        ∷ ‵ (rights R cv.code holds w p z) ∷ []) ∵ move ! (1 ∷ []) $ fsplit ! $
        fpick ! (λ at. drop ! $ check ! (at.0, subst InBlock (sym at.1) tt) $ nothing ! $
        fpack ! (Placed w p z) (λ _. ftrue) at $ fjoin ! $ move ! (1 ∷ 0 ∷ []) $ done !)

    pub gathers : ⟦ Whole ⟧ ⊢ H.⇛ (ex 𝓤 Gathered)
    unfolding Rattle.lent_table.specs.Lending.under
    gathers = qed 𝓛 (‵ (flft (age z) full_share) ∷ ‵ (common R cv.code holds w p z)
        ∷ ‵ (rights R cv.code holds w p z) ∷ []) ∵ updating ! $ lft_end ! tt $
        use1 𝓛 (‵ (fdead (age z)) ⊛ ‵ (fdead (age z))) (𝓛.lfts.dead_dup (age z)) $ split ! $ move ! (2 ∷ []) $
        fsplit ! $ fpick ! (λ at. drop ! $ drop ! $
        move ! (2 ∷ []) $ fsplit ! $ move ! (2 ∷ 0 ∷ []) $ lent_back ! tt $ fpick ! (λ s. fsplit3 ! $
        move ! (2 ∷ []) $ fpick ! (λ so. drop ! $
        move ! (1 ∷ []) $ fsplit ! $ move ! (4 ∷ 3 ∷ []) $ lent_back ! tt $ fpick ! (λ x. fsplit ! $
        move ! (2 ∷ 1 ∷ []) $
        use2 𝓛 (given (Told s.home x) (‵ ftrue)) (home_tells s.home x) $ learn ! (λ is. drop ! $
        let in_p : InBlock p = subst InBlock (sym at.1) tt in
        rewrite ! 0 (λ (r : Ptr). ‵ (part_at R full_share x (block_of r) (count_of r))) (sym at.1) refl $
        use1 𝓛 (‵ (plot_owns R p x)) (plot_in 𝓛 R p x in_p) $
        move ! (2 ∷ []) $ use1 𝓛 (‵ (part_at u64 full_share s.word b o)) (word_in 𝓛 b o s.word) $
        use1 𝓛 (‵ (plot_owns u64 w s.word)) (plot_in 𝓛 u64 w s.word at.0) $
        move ! (2 ∷ []) $ use1 𝓛 (later (‵ (has_ended cv.code z s.views)))
        (𝓛.invs.inv_new (roster cv.code z.views_name 0 s.views)) $ await ! tt $
        now ! $ show ! Gathered (s.word, x, s.views) $ check ! ((s, so, refl, refl, is), at.0, in_p) $
        keep ! (1 ∷ 2 ∷ 0 ∷ []) $ done !)))))
