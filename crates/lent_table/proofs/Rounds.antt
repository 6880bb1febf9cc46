-- The value is lent for a round, part by part, and the round ends. Assumes `Logic`.
use Rattle.std.proofs.Common.{◌≡◌, ℕ, zero, suc, ◌+◌, ◌-◌, ◌^◌, ◌<◌, [], ◌∷◌, ◌++◌, refl, sym, arith}
use seplogic.Ra.Ura.{Ura}
use base.Fraction.{full_share}
use base.FractionLaws.{Counts-all}
use base.Logic.{via, SProp, ex, guard, guard_i, upd_i, id⊢}
use base.Fml.{Lft, Share, Incl, Incl-trans, Fml, ftrue, fsep, fseps, fex, fwand, fupd, fdead, fbor, flft, fauth}
use contract.BorrowLft.{meet_⊑_left, meet_⊑_right, ⊑_meet}
use ghost.Rules.{Toks, span}
use types.Logic.{Logic, lfts}
use types.Kit.{given, learn, some, pick, drop, show, ‵, raw, ◌⊛◌, later, ◌$◌, ◌∵◌, !, qed, by, move, keep, use1, use2}
use types.Kit.{use3, split, split3, join, group, fsplit, fsplit3, fjoin, fjoin3, fpick, fpack, assume, suffices, await}
use types.Kit.{updating, now, rewrite, done}
use types.Tokens.{lft_new, lft_end, lent_back, bor_open, obor_alter, name_agree}
use types.Owned.{basic}
use denote.RattleType.{RattleType, RowLaws}
use denote.Shares.{Shares}
use denote.SharingLaws.{contraction}
use denote.Steps.{nothing}
use Rattle.core.proofs.cell.Borrows.{by_one}
use Rattle.counted_slot.specs.Counting.{tag, share, parts}
use Rattle.counted_slot.proofs.Parts.{none_beside, parts_in, parts_cut, parts_glue, parts_whole, parts_agree, renames}
use Rattle.lent_table.specs.Table.{Fits, Home, away, lent, Hold, none, reads, writes, Act, stays, comes, goes, takes}
use Rattle.lent_table.specs.Table.{gives, grows, shrinks, home_after, hold_after, Valid}
use Rattle.lent_table.specs.Lending.{TableId, waits, round_of, lends, reading, writing, counted, home_owns, hold_owns}
use Rattle.lent_table.specs.inner.Lending.{resting, hold_steps}
use Rattle.lent_table.proofs.Signs.{signs, table_signs}

module _ {M : Type 1} {𝓤 : Ura M} (𝓛 : Logic 𝓤) (R : RattleType) (L : RowLaws R) (z : TableId) where
  open 𝓛 use {H, A}
  open signs 𝓛 use {⟦◌⟧, ◌∗◌, ◌⊢◌}
  open table_signs R z use {T, γ, α, V, C, At, Obs}

  abbrev home : Home T → Fml
  home = home_owns R z

  abbrev hold : Hold T → Fml
  hold = hold_steps R z

  abbrev Lent : ℕ → T → Fml
  Lent m x = fex ℕ (lends R z m x)

  abbrev Read : T → Fml
  Read x = fex ℕ (reading R z x)

  abbrev left : ℕ → Fml
  left m = counted R z (2 ^ 63 - m)

  abbrev one : Fml
  one = counted R z 1

  -- a part is cut from the rest, and glued to it again
  cuts : (δ a k m : ℕ) → k ≡ 2 ^ 63 - m → m < 2 ^ 62 → ⟦ parts δ a k ⟧ ⊢ ⟦ parts δ a 1 ⟧
      ∗ ⟦ parts δ a (2 ^ 63 - suc m) ⟧
  cuts δ a k m is few = parts_cut 𝓛 δ a k 1 (2 ^ 63 - suc m) (omega arith) (omega arith) (omega arith) (omega arith)

  glues : (δ a c m : ℕ) → m < 2 ^ 62 → ⟦ parts δ a (2 ^ 63 - suc m) ⟧ ∗ ⟦ parts δ c 1 ⟧ ⊢ ⟦ parts δ a (2 ^ 63 - m) ⟧
  glues δ a c m few = let rest : ℕ = 2 ^ 63 - suc m in let is : rest + 1 ≡ 2 ^ 63 - m = omega arith in
      qed 𝓛 (‵ (parts δ a rest) ∷ ‵ (parts δ c 1) ∷ []) ∵
      use2 𝓛 (given (a ≡ c) (‵ (parts δ a rest) ⊛ ‵ (parts δ c 1))) (parts_agree 𝓛 δ a c rest 1) $
      learn ! (λ same. split ! $
      rewrite ! 1 (λ (k : ℕ). ‵ (parts δ k 1)) (sym same) refl $
      use2 𝓛 (‵ (parts δ a (rest + 1))) (parts_glue 𝓛 δ a rest 1 (omega arith) (omega arith)) $
      rewrite ! 0 (λ (k : ℕ). ‵ (parts δ a k)) is refl $ done !)

  -- one more reader, who is counted
  comes_in : (k m : ℕ) (x : T) (a : ℕ) → k ≡ 2 ^ 63 - m → m < 2 ^ 62
      → (⟦ parts γ a k ⟧ ∗ ⟦ round_of R z a x ⟧) ∗ ⟦ left m ⟧ ⊢ ⟦ home (lent (suc m) x) ⟧ ∗ ⟦ hold (reads x) ⟧
  comes_in k m x a is few = qed 𝓛 ((‵ (parts γ a k) ⊛ ‵ (round_of R z a x)) ∷ ‵ (left m) ∷ []) ∵ move ! (1 ∷ []) $
      use1 𝓛 (‵ one ⊛ ‵ (left (suc m))) (cuts z.count_name z.count_atom (2 ^ 63 - m) m refl few) $ split ! $
      move ! (2 ∷ []) $ split ! $
      use1 𝓛 (‵ (parts γ a 1) ⊛ ‵ (parts γ a (2 ^ 63 - suc m))) (cuts γ a k m is few) $ split ! $ move ! (2 ∷ []) $
      fsplit ! $
      use1 𝓛 (‵ (V x (a ∷ α)) ⊛ ‵ (V x (a ∷ α))) (contraction 𝓛 (V x) (L x z.block z.offset) (a ∷ α)) $ split ! $
      -- [what is shown, twice; the rest of the round; a part; the other parts; one; those left]
      move ! (3 ∷ 0 ∷ []) $ fjoin ! $ fpack ! ℕ (reading R z x) a $ move ! (0 ∷ 4 ∷ []) $ fjoin ! $
      move ! (1 ∷ 2 ∷ []) $ fjoin ! $ move ! (2 ∷ 0 ∷ []) $ fjoin ! $ fpack ! ℕ (lends R z (suc m) x) a $
      move ! (0 ∷ 2 ∷ []) $ fjoin ! $ done !

  -- one less, whose part of the round comes back
  goes_out : (m : ℕ) (x y : T) → m < 2 ^ 62
      → ⟦ home (lent (suc m) x) ⟧ ∗ ⟦ hold (reads y) ⟧ ⊢ ⟦ Lent m x ⟧ ∗ ⟦ left m ⟧
  goes_out m x y few = qed 𝓛 (‵ (home (lent (suc m) x)) ∷ ‵ (hold (reads y)) ∷ []) ∵ fsplit ! $ move ! (2 ∷ []) $
      fsplit ! $ move ! (3 ∷ 1 ∷ []) $
      use2 𝓛 (‵ (left m)) (glues z.count_name z.count_atom z.count_atom m few) $ move ! (2 ∷ []) $
      fpick ! (λ a. fsplit ! $ move ! (3 ∷ []) $
      fpick ! (λ c. fsplit ! $ move ! (2 ∷ 0 ∷ []) $ use2 𝓛 (‵ (parts γ a (2 ^ 63 - m))) (glues γ a c m few) $
      move ! (0 ∷ 2 ∷ []) $ fjoin ! $
      fpack ! ℕ (lends R z m x) a $ keep ! (0 ∷ 2 ∷ []) $ done !))

  whole : (a : ℕ) → ⟦ share γ a full_share ⟧ ⊢ ⟦ parts γ a (2 ^ 63 - 0) ⟧
  whole a = parts_in 𝓛 γ a (2 ^ 63) full_share (Counts-all 63)

  -- where the value is lent to nobody, the round is whole
  rests : (x : T) → ⟦ Lent 0 x ⟧ ⊢ ⟦ hold (writes x) ⟧
  rests x = qed 𝓛 (‵ (Lent 0 x) ∷ []) ∵ fpick ! (λ a. fsplit ! $
      use1 𝓛 (‵ (share γ a full_share)) (parts_whole 𝓛 γ a) $ fjoin ! $
      fpack ! ℕ (resting R z x) a $ done !)

  pub acts : (h : Home T) (o : Hold T) (a : Act T) → Valid h o a
      → ⟦ home h ⟧ ∗ ⟦ hold o ⟧ ⊢ ⟦ home (home_after h a) ⟧ ∗ ⟦ hold (hold_after o a) ⟧
  acts h o stays v = id⊢ 𝓤 _
  acts h o (comes m x) v = qed 𝓛 (‵ (home h) ∷ ‵ (hold o) ∷ []) ∵ keep ! (0 ∷ []) $
      rewrite ! 0 (λ (t : Home T). ‵ (home t)) v.0 refl $
      fsplit ! $ fpick ! (λ a. fsplit ! $ join ! $ by ! (comes_in (2 ^ 63 - m) m x a refl v.2))
  acts h o (goes m x) v = let y : T = v.2.0 in qed 𝓛 (‵ (home h) ∷ ‵ (hold o) ∷ []) ∵
      rewrite ! 0 (λ (t : Home T). ‵ (home t)) v.0 refl $
      rewrite ! 1 (λ (t : Hold T). ‵ (hold t)) v.2.1 refl $
      use2 𝓛 (‵ (Lent m x) ⊛ ‵ (left m)) (goes_out m x y v.1) $ split ! $ fjoin ! $
      nothing ! $ move ! (1 ∷ 0 ∷ []) $ done !
  acts h o (takes x) v = qed 𝓛 (‵ (home h) ∷ ‵ (hold o) ∷ []) ∵ keep ! (0 ∷ []) $
      rewrite ! 0 (λ (t : Home T). ‵ (home t)) v.0 refl $
      fsplit ! $ use1 𝓛 (‵ (hold (writes x))) (rests x) $ nothing ! $ move ! (0 ∷ 2 ∷ []) $ fjoin ! $ done !
  acts h o (gives x) v = qed 𝓛 (‵ (home h) ∷ ‵ (hold o) ∷ []) ∵ rewrite ! 0 (λ (t : Home T). ‵ (home t)) v.0 refl $
      rewrite ! 1 (λ (t : Hold T). ‵ (hold t)) v.1 refl $ fsplit ! $ drop ! $ move ! (1 ∷ []) $
      fpick ! (λ a. fsplit ! $
      use1 𝓛 (‵ (parts γ a (2 ^ 63 - 0))) (whole a) $ fjoin ! $ fpack ! ℕ (lends R z 0 x) a $ fjoin ! $ nothing ! $
      move ! (1 ∷ 0 ∷ []) $ done !)
  acts h o (grows x) v = let y : T = v.1.0 in qed 𝓛 (‵ (home h) ∷ ‵ (hold o) ∷ []) ∵
      rewrite ! 0 (λ (t : Home T). ‵ (home t)) v.0 refl $
      rewrite ! 1 (λ (t : Hold T). ‵ (hold t)) v.1.1 refl $
      use2 𝓛 (‵ (Lent 0 x) ⊛ ‵ (left 0)) (goes_out 0 x y (omega arith)) $ split ! $
      use1 𝓛 (‵ (hold (writes x))) (rests x) $ nothing ! $ move ! (0 ∷ 2 ∷ []) $ fjoin ! $ done !
  acts h o (shrinks x) v = qed 𝓛 (‵ (home h) ∷ ‵ (hold o) ∷ []) ∵ rewrite ! 0 (λ (t : Home T). ‵ (home t)) v.0 refl $
      rewrite ! 1 (λ (t : Hold T). ‵ (hold t)) v.1 refl $ fsplit ! $ drop ! $ move ! (1 ∷ []) $
      fpick ! (λ a. fsplit ! $
      use1 𝓛 (‵ (parts γ a (2 ^ 63 - 0))) (whole a) $ join ! $ by ! (comes_in (2 ^ 63 - 0) 0 x a refl (omega arith)))

  -- a writer has the whole name of the round
  abbrev Named : SProp 𝓤
  Named = ex 𝓤 (λ (a : ℕ). ⟦ tag γ full_share a ⟧)

  named : (y : T) → ⟦ hold_owns R z (writes y) ⟧ ⊢ Named
  named y = qed 𝓛 (‵ (hold_owns R z (writes y)) ∷ []) ∵ fpick ! (λ a. fsplit ! $ keep ! (0 ∷ []) $
      show ! (λ (c : ℕ). ⟦ tag γ full_share c ⟧) a $ done !)

  named_round : (y : T) → ⟦ hold (writes y) ⟧ ⊢ Named
  named_round y = qed 𝓛 (‵ (hold (writes y)) ∷ []) ∵ fpick ! (λ a. fsplit ! $ fsplit ! $ keep ! (1 ∷ []) $
      show ! (λ (c : ℕ). ⟦ tag γ full_share c ⟧) a $ done !)

  -- nobody is counted beside a reader where the table has all parts
  none_counted : (Z : SProp 𝓤) → ⟦ left 0 ⟧ ∗ ⟦ one ⟧ ⊢ Z
  none_counted Z = qed 𝓛 (‵ (left 0) ∷ ‵ one ∷ []) ∵ use1 𝓛 (‵ (share z.count_name z.count_atom full_share))
      (parts_whole 𝓛 z.count_name z.count_atom) $
      fsplit ! $ keep ! (1 ∷ 2 ∷ []) $ by ! (none_beside 𝓛 z.count_name z.count_atom z.count_atom 1 Z)

  module _ (own : Hold T → Fml) (read : (y : T) → ⟦ own (reads y) ⟧ ⊢ ⟦ hold (reads y) ⟧) (written : (y : T)
      → ⟦ own (writes y) ⟧ ⊢ Named) where
    fits_by : (h : Home T) (o : Hold T) → ⟦ home h ⟧ ∗ ⟦ own o ⟧ ⊢ guard 𝓤 (Fits h o) (⟦ home h ⟧ ∗ ⟦ own o ⟧)
    fits_by h none = guard_i 𝓤 (Unit {0}) _ tt
    fits_by away (reads y) = qed 𝓛 (‵ (home away) ∷ ‵ (own (reads y)) ∷ []) ∵ fsplit ! $ move ! (2 ∷ []) $
        use1 𝓛 (‵ (hold (reads y))) (read y) $ fsplit ! $
        keep ! (3 ∷ 1 ∷ []) $ by ! (none_counted _)
    fits_by (lent zero x) (reads y) = qed 𝓛 (‵ (home (lent zero x)) ∷ ‵ (own (reads y)) ∷ []) ∵ fsplit ! $
        move ! (2 ∷ []) $
        use1 𝓛 (‵ (hold (reads y))) (read y) $ fsplit ! $ keep ! (3 ∷ 1 ∷ []) $ by ! (none_counted _)
    fits_by (lent (suc m) x) (reads y) = guard_i 𝓤 (Fits (lent (suc m) x) (reads y)) _ (m, (x, refl))
    fits_by away (writes y) = guard_i 𝓤 (away ≡ away) _ refl
    fits_by (lent m x) (writes y) = qed 𝓛 (‵ (home (lent m x)) ∷ ‵ (own (writes y)) ∷ []) ∵ fsplit ! $
        move ! (2 ∷ []) $
        use1 𝓛 (some (λ (a : ℕ). ‵ (tag γ full_share a))) (written y) $ pick ! (λ a. move ! (1 ∷ []) $
        fpick ! (λ c. fsplit ! $ keep ! (2 ∷ 0 ∷ []) $
        by ! (none_beside 𝓛 γ c a (2 ^ 63 - m) _)))

  -- what a seat has fits where the value is, between steps and while one goes on
  pub fits : (h : Home T) (o : Hold T) → ⟦ home h ⟧ ∗ ⟦ hold_owns R z o ⟧
      ⊢ guard 𝓤 (Fits h o) (⟦ home h ⟧ ∗ ⟦ hold_owns R z o ⟧)
  fits = fits_by (hold_owns R z) (λ y. id⊢ 𝓤 _) named

  pub fits_step : (h : Home T) (o : Hold T) → ⟦ home h ⟧ ∗ ⟦ hold o ⟧ ⊢ guard 𝓤 (Fits h o) (⟦ home h ⟧ ∗ ⟦ hold o ⟧)
  fits_step = fits_by hold (λ y. id⊢ 𝓤 _) named_round

  -- a round ends: its last holder has the borrow again
  ended : (x : T) (a : ℕ) → ⟦ resting R z x a ⟧ ⊢ H.⇛ ⟦ writing R z x a ⟧
  ended x a = qed 𝓛 (‵ (resting R z x a) ∷ []) ∵ updating ! $ fsplit ! $ fsplit ! $ lft_end ! tt $
      use1 𝓛 (‵ (fdead (a ∷ α))) (𝓛.lfts.dead-incl (a ∷ α) (a ∷ []) (meet_⊑_left (a ∷ []) α)) $ move ! (2 ∷ []) $
      fsplit3 ! $ move ! (3 ∷ 2 ∷ []) $
      lent_back ! tt $ move ! (2 ∷ 0 ∷ []) $ fjoin ! $ move ! (2 ∷ 0 ∷ []) $ fjoin ! $ now ! $ keep ! (0 ∷ []) $ done !

  -- after a step a writer ends its round
  pub settles : (o : Hold T) → ⟦ hold o ⟧ ⊢ H.⇛ ⟦ hold_owns R z o ⟧
  settles none = 𝓛.laws.⇛_intro _
  settles (reads x) = 𝓛.laws.⇛_intro _
  settles (writes x) = qed 𝓛 (‵ (fex ℕ (resting R z x)) ∷ []) ∵ updating ! $
      fpick ! (λ a. use1 𝓛 (later (‵ (writing R z x a))) (ended x a) $ await ! tt $
      fpack ! ℕ (writing R z x) a $ now ! $ done !)

  abbrev Auth : T → Fml
  Auth x = fauth z.value_name (R.coded.code x)

  back_in : (κ : Lft) (x : T) → ⟦ Auth x ⟧ ⊢ ⟦ fwand (fsep (fdead κ) (fseps (At x ∷ []))) (fupd C) ⟧
  unfolding fseps
  back_in κ x = qed 𝓛 (‵ (Auth x) ∷ []) ∵ assume ! (‵ (fsep (fdead κ) (fsep (At x) ftrue))) $
      suffices ! ⟦ C ⟧ (upd_i 𝓤 ⟦ C ⟧) $ fsplit3 ! $
      keep ! (1 ∷ 3 ∷ []) $ fjoin ! $ fpack ! T (λ y. fsep (At y) (Auth y)) x $ done !

  -- the borrow of the place is one of the value that the name says
  pub told_value : (x : T) (κ : Lft) (q : Share) → (A.bor κ C ∗ ⟦ Obs x ⟧) ∗ A.lft κ q
      ⊢ H.⇛ ((A.bor κ (At x) ∗ ⟦ Obs x ⟧) ∗ A.lft κ q)
  unfolding fseps
  told_value x κ q = qed 𝓛 ((‵ (fbor κ C) ⊛ ‵ (Obs x)) ∷ ‵ (flft κ q) ∷ []) ∵ updating ! $ split ! $
      move ! (0 ∷ 2 ∷ []) $ bor_open ! tt $ move ! (1 ∷ []) $
      fpick ! (λ y. fsplit ! $ move ! (3 ∷ 1 ∷ []) $ name_agree ! R.coded (λ same.
      rewrite ! 1 (λ (u : T). ‵ (Auth u)) (sym same) refl $
      rewrite ! 2 (λ (u : T). ‵ (At u)) (sym same) refl $ move ! (2 ∷ []) $ nothing ! $ move ! (1 ∷ 0 ∷ []) $
      fjoin ! $ move ! (2 ∷ []) $
      use1 𝓛 (‵ (fwand (fsep (fdead κ) (fseps (At x ∷ []))) (fupd C))) (back_in κ x) $ move ! (3 ∷ 1 ∷ 0 ∷ []) $
      obor_alter ! tt (At x ∷ []) $
      use1 𝓛 (‵ (fbor κ (At x)) ⊛ ‵ ftrue) (id⊢ 𝓤 _) $ split ! $ move ! (0 ∷ 3 ∷ []) $ join ! $ now ! $
      keep ! (0 ∷ 2 ∷ []) $ done !))

  abbrev begun : T → ℕ → Fml
  begun x a = fsep (flft (a ∷ []) full_share) (round_of R z a x)

  module _ (l : Lft) (shares : Shares 𝓛 R l) (μ : Lft) (s : Share) (τ : Lft) (r : Share) (i : Incl μ α)
      (j : Incl τ l) where
    -- a round begins
    begins : (x : T) → (A.bor α C ∗ ⟦ Obs x ⟧) ∗ A.lft μ s ∗ A.lft τ r
        ⊢ H.⇛ (⟦ fex ℕ (begun x) ⟧ ∗ A.lft μ s ∗ A.lft τ r)
    begins x = qed 𝓛 ((‵ (fbor α C) ⊛ ‵ (Obs x)) ∷ ‵ (flft μ s) ∷ ‵ (flft τ r) ∷ []) ∵ updating ! $ split ! $
        lft_new ! tt (λ a.
        let κ : Lft = a ∷ α in let ts : Toks = (a ∷ [], full_share) ∷ (μ, s) ∷ (τ, r) ∷ [] in
        let more : Lft = μ ++ τ in
        let in_age : Incl (a ∷ more) α = Incl-trans (meet_⊑_right (a ∷ []) more) (Incl-trans (meet_⊑_left μ τ) i) in
        let sp : Incl (span ts) κ = ⊑_meet (a ∷ more) (a ∷ []) α (meet_⊑_left (a ∷ []) more) in_age in
        let lives : Incl (span ts) l = Incl-trans (meet_⊑_right (a ∷ []) more) (Incl-trans (meet_⊑_right μ τ) j) in
        move ! (1 ∷ []) $ use1 𝓛 (later (‵ (fbor κ C) ⊛ ‵ (waits R z a)))
        (𝓛.more.bor_reborrow α κ C (meet_⊑_right (a ∷ []) α)) $ await ! tt $ split ! $
        move ! (2 ∷ 4 ∷ 5 ∷ []) $ group ! 3 $ move ! (1 ∷ 3 ∷ []) $ join ! $
        use2 𝓛 (later ((‵ (fbor κ (At x)) ⊛ ‵ (Obs x)) ⊛ raw (lfts 𝓛 ts)))
        (by_one 𝓛 κ ts sp (A.bor κ C ∗ ⟦ Obs x ⟧) (A.bor κ (At x) ∗ ⟦ Obs x ⟧) (told_value x κ)) $ await ! tt $
        split ! $ split ! $ move ! (0 ∷ 2 ∷ []) $
        use2 𝓛 (later (‵ (V x κ) ⊛ ‵ (flft (a ∷ []) full_share) ⊛ ‵ (flft μ s) ⊛ ‵ (flft τ r)))
        (shares x κ ts z.block z.offset lives sp) $ await ! tt $
        split3 ! $ move ! (0 ∷ 3 ∷ 4 ∷ []) $ fjoin3 ! $ move ! (1 ∷ 0 ∷ []) $ fjoin ! $ fpack ! ℕ (begun x) a $
        now ! $ done !)

    -- before a step a writer begins one
    pub readies : (o : Hold T) → ⟦ hold_owns R z o ⟧ ∗ A.lft μ s ∗ A.lft τ r ⊢ H.⇛ (⟦ hold o ⟧ ∗ A.lft μ s ∗ A.lft τ r)
    readies none = 𝓛.laws.⇛_intro _
    readies (reads x) = 𝓛.laws.⇛_intro _
    readies (writes x) = qed 𝓛 (‵ (fex ℕ (writing R z x)) ∷ ‵ (flft μ s) ∷ ‵ (flft τ r) ∷ []) ∵ updating ! $
        fpick ! (λ c. fsplit3 ! $ move ! (2 ∷ 1 ∷ []) $ join ! $
        move ! (0 ∷ 2 ∷ 3 ∷ []) $ use3 𝓛 (later (‵ (fex ℕ (begun x)) ⊛ ‵ (flft μ s) ⊛ ‵ (flft τ r))) (begins x) $
        await ! tt $ split3 ! $
        fpick ! (λ a. fsplit ! $ move ! (4 ∷ []) $ use1 𝓛 (later (‵ (tag γ full_share a)))
        (via 𝓤 _ (renames 𝓛 γ c a) (basic 𝓛 ⟦ tag γ full_share a ⟧)) $ await ! tt $
        move ! (1 ∷ 0 ∷ []) $ fjoin ! $ fjoin ! $ fpack ! ℕ (resting R z x) a $ now ! $ done !))

    -- a table's first round: the value is lent, and to nobody yet
    pub first_round : (x : T) → (⟦ home away ⟧ ∗ ⟦ hold_owns R z (writes x) ⟧) ∗ A.lft μ s ∗ A.lft τ r
        ⊢ H.⇛ (⟦ home (lent 0 x) ⟧ ∗ A.lft μ s ∗ A.lft τ r)
    first_round x = qed 𝓛 ((‵ (home away) ⊛ ‵ (hold_owns R z (writes x))) ∷ ‵ (flft μ s) ∷ ‵ (flft τ r) ∷ []) ∵
        updating ! $ split ! $ move ! (1 ∷ 2 ∷ 3 ∷ []) $
        use3 𝓛 (later (‵ (hold (writes x)) ⊛ ‵ (flft μ s) ⊛ ‵ (flft τ r))) (readies (writes x)) $ await ! tt $
        split3 ! $ move ! (3 ∷ 0 ∷ []) $
        use2 𝓛 (‵ (home (lent 0 x)) ⊛ ‵ (hold none)) (acts away (writes x) (gives x) (refl, refl)) $ split ! $
        now ! $ keep ! (0 ∷ 2 ∷ 3 ∷ []) $ done !
