-- The fields of a `Shared`, a `Seat` and a `Plot`, and a `&` to a `Shared` taken apart. Assumes `Logic`.
use Rattle.std.proofs.Common.{◌≡◌, ℕ, zero, T, List, [], ◌∷◌, ◌++◌, refl, sym, subst, ◌∙◌}
use seplogic.Ra.Ura.{Ura}
use mir.Syntax.{Ty, ty_ptr, ty_struct, tcons, tnil, Body, Place, place as variable, deref, field, copy, rv_opd}
use mir.Syntax.{assign, seq, block}
use mir.Val.{Val, WT, has_ty, vptr, vstruct, vcons, vnil, of_list}
use base.Fraction.{full_share}
use base.Logic.{ent, emp, guard_i}
use base.Fml.{Lft, Share, Fml, fat, froom, fhide, flft, fobor, fshr_bor}
use prog.Wp.{Heap, Calls, Loops, Env, Wp, spot_of, after_seq, after_block}
use types.Logic.{Logic, sem}
use types.Kit.{Goal, runs, Post, any_q, post, Soaks, Item, Seq, Step, step, ‵, ◌⊛◌, given, ◌$◌, move, split, join}
use types.Kit.{fsplit, learn, use1, rewrite}
use types.Run.{assigns, of_opd, load, fld, stop, from, init, first, blocks}
use types.ByLocal.{at, set, cell, through}
use types.Part.{look_in, sub, whole}
use types.Tokens.{shr_bor-open}
use types.Within.{tokens_halve}
use contract.Monad.{fact_use}
use denote.RattleType.{RattleType}
use denote.Laws.{Is, shows}
use denote.Opens.{Opens, Shut, unhide}
use denote.Copied.{Struct-Copied}
use denote.Memory.{lone, cell_at, part_at, hidden_shr}
use denote.Steps.{looks, peeks, shuts}
use denote.RawPtr.{Ptr, block_ptr, null_ptr, block_of, count_of, ptr_val, at_block, InBlock}
use denote.Shadow.{makes_shadow}
use denote.Struct.Laws.{RawPtr-copy, field_copy}
use denote.Struct.Struct.{Struct}
use denote.Struct.Owning.{shape}
use denote.Struct.Tuple.{Tuple}
use denote.Struct.Lending.{lent_out}
use Rattle.core.specs.contracts.marker.PhantomData as phantom
use Rattle.atomic_table.proofs.Fields.{hand_of, token_val, strip_of}
use Rattle.lent_table.specs.Lending.{age, place, Placed, common}
use Rattle.lent_table.specs.declared.shared.TableRule.{Ghosts}
use Rattle.lent_table.specs.contracts.plot.Plot as plot
use Rattle.lent_table.specs.contracts.shared.Shared as table
use Rattle.lent_table.specs.contracts.shared.Seat as seat
use Rattle.lent_table.specs.contracts.shared.Left as left
use Rattle.lent_table.specs.contracts.shared.Ended as ended
use Rattle.lent_table.proofs.Stepping.{placed}

-- a runs to the end of a block, and then c
abbrev ends_block : {M : Type 1} {𝓤 : Ura M} {H : Heap 𝓤} → Calls 𝓤 H → Loops 𝓤 H → Env 𝓤 H → Body → Body
    → Post 𝓤 H → Goal 𝓤 H
ends_block {𝓤 = 𝓤} {H = H} C Λ E a c e =
    runs C Λ E a (any_q (after_block 𝓤 H (after_seq 𝓤 H (Wp 𝓤 H C Λ E c (post 𝓤 H e)) (post 𝓤 H e))))

module _ (X : RattleType) where
  abbrev pub PlotData : RattleType
  PlotData = Struct (shape (plot.the_type X))

  pub plot_told : (p : Ptr) (vs : List Val) → Is PlotData (p, tt) vs → vs ≡ strip_of p ∷ []
  plot_told p vs is = is.1.0 ∙ (λ i. vstruct (of_list (is.1.1.0 i ++ [])) ∷ [])

  pub plot_made : {M : Type 1} {𝓤 : Ura M} (𝓛 : Logic 𝓤) (p : Ptr)
      → ent 𝓤 (emp 𝓤) (sem 𝓛 (PlotData.own_val (p, tt) (strip_of p ∷ [])))
  plot_made 𝓛 p = makes_shadow 𝓛 (PlotData.own_val (p, tt) (strip_of p ∷ [])) (λ vss.
      (tt, (tt, tt))) ((ptr_val p ∷ [], tt), (refl, (refl, tt)))

module _ (R W : RattleType) where
  abbrev pub SeatData : RattleType
  SeatData = Struct (shape (seat.the_type R W))

  pub seat_told : (vs : List Val) → Is SeatData (tt, tt) vs → vs ≡ token_val ∷ []
  seat_told vs is = is.1.0 ∙ (λ i. vstruct (of_list (is.1.1.0.1.0 i ++ [])) ∷ [])

  pub seat_made : {M : Type 1} {𝓤 : Ura M} (𝓛 : Logic 𝓤)
      → ent 𝓤 (emp 𝓤) (sem 𝓛 (SeatData.own_val (tt, tt) (token_val ∷ [])))
  seat_made 𝓛 = makes_shadow 𝓛 (SeatData.own_val (tt, tt) (token_val ∷ [])) (λ vss. (
    tt,
    (
      (λ uss.
          (tt, tt)),
      tt,
    ),
  )) ((vstruct vnil ∷ [], tt), (refl, ((tt, (refl, tt)), tt)))

module _ (W : RattleType) where
  abbrev pub LeftData : RattleType
  LeftData = Struct (shape (left.the_type W))

  pub left_told : (vs : List Val) → Is LeftData (tt, tt) vs → vs ≡ token_val ∷ []
  left_told vs is = is.1.0 ∙ (λ i. vstruct (of_list (is.1.1.0.1.0 i ++ [])) ∷ [])

  pub left_made : {M : Type 1} {𝓤 : Ura M} (𝓛 : Logic 𝓤)
      → ent 𝓤 (emp 𝓤) (sem 𝓛 (LeftData.own_val (tt, tt) (token_val ∷ [])))
  left_made 𝓛 = makes_shadow 𝓛 (LeftData.own_val (tt, tt) (token_val ∷ [])) (λ vss. (
    tt,
    (
      (λ uss.
          (tt, tt)),
      tt,
    ),
  )) ((vstruct vnil ∷ [], tt), (refl, ((tt, (refl, tt)), tt)))

module _ (W : RattleType) where
  abbrev pub EndedData : RattleType
  EndedData = Struct (shape (ended.the_type W))

  pub ended_told : (vs : List Val) → Is EndedData (tt, tt) vs → vs ≡ token_val ∷ []
  ended_told vs is = is.1.0 ∙ (λ i. vstruct (of_list (is.1.1.0.1.0 i ++ [])) ∷ [])

  pub ended_made : {M : Type 1} {𝓤 : Ura M} (𝓛 : Logic 𝓤)
      → ent 𝓤 (emp 𝓤) (sem 𝓛 (EndedData.own_val (tt, tt) (token_val ∷ [])))
  ended_made 𝓛 = makes_shadow 𝓛 (EndedData.own_val (tt, tt) (token_val ∷ [])) (λ vss. (
    tt,
    (
      (λ uss.
          (tt, tt)),
      tt,
    ),
  )) ((vstruct vnil ∷ [], tt), (refl, ((tt, (refl, tt)), tt)))

abbrev strip_ty : Ty
strip_ty = ty_struct [] (tcons ty_ptr tnil)

-- two strips and a token, as `gather` gives them
abbrev pub gathered_of : Ptr → Ptr → Val
gathered_of w p = vstruct (vcons (strip_of w) (vcons (strip_of p) (vcons token_val vnil)))

abbrev gathered_ty : Ty
gathered_ty =
    ty_struct [] (tcons strip_ty (tcons strip_ty (tcons (ty_struct [] (tcons (ty_struct [] tnil) tnil)) tnil)))

pub gathered_good : (w p : Ptr) → InBlock w → InBlock p → T (has_ty gathered_ty (gathered_of w p))
    × WT (gathered_of w p)
gathered_good (block_ptr b o) (block_ptr c e) i j = (tt, ((tt, tt), ((tt, tt), ((tt, tt), tt))))
gathered_good (block_ptr b o) null_ptr i j = absurd j
gathered_good null_ptr p i j = absurd i

module _ (R W X Y : RattleType) (g : Ghosts Y.Denot R.Denot W.Denot X.Denot) where
  abbrev pub TableData : RattleType
  TableData = Struct (shape (table.the_type R W X Y g))

  pub table_told : (w p : Ptr) (vs : List Val) → Is TableData (w, (p, (tt, tt))) vs → vs ≡ hand_of w p ∷ []
  table_told w p vs is = is.1.0 ∙ (λ i. vstruct (of_list
      (is.1.1.0 i ++ (is.1.1.1.0 i ++ (is.1.1.1.1.0.1.0 i ++ [])))) ∷ [])

  pub table_made : {M : Type 1} {𝓤 : Ura M} (𝓛 : Logic 𝓤) (w p : Ptr)
      → ent 𝓤 (emp 𝓤) (sem 𝓛 (TableData.own_val (w, (p, (tt, tt))) (hand_of w p ∷ [])))
  table_made 𝓛 w p = let Data = TableData.own_val (w, (p, (tt, tt))) (hand_of w p ∷ []) in
      makes_shadow 𝓛 Data (λ vss. (
        tt,
        (
          tt,
          (
            tt,
            (
              (λ uss.
                  (tt, tt)),
              tt,
            ),
          ),
        ),
      )) (
        (ptr_val w ∷ [], (ptr_val p ∷ [], (vstruct vnil ∷ [], tt))),
        (refl, (refl, (refl, ((tt, (refl, tt)), tt)))),
      )

  pub table_opens : {M : Type 1} {𝓤 : Ura M} (𝓛 : Logic 𝓤) → Opens 𝓛 TableData
  table_opens {M} {𝓤 = 𝓤} 𝓛 = let pointer = RawPtr-copy.copied M 𝓤 𝓛 in
      let mark = (field_copy (phantom.the_type (Tuple (Y ∷ W ∷ X ∷ []))) tt).copied M 𝓤 𝓛 in
      (Struct-Copied 𝓛 (shape (table.the_type R W X Y g)) (refl, (refl, (refl, tt))) (
        pointer,
        (pointer, (mark, tt)),
      )).opens

  abbrev pub Row : RattleType
  Row = table.the_row R W X Y g

  abbrev pub known : Row.Denot → Fml
  known t = common R W.coded.code (g.holds t.key) t.word t.value t.table_id

  abbrev pub fields_of : Row.Denot → TableData.Denot
  fields_of t = (t.word, (t.value, (tt, tt)))

  -- the fields as they lie in memory: both places are in blocks
  abbrev pub hand : Row.Denot → List Val
  hand t = hand_of (block_ptr (block_of t.word) (count_of t.word)) (place t.table_id) ∷ []

  -- the fields, open to be read, and what shuts them for the token of κ
  abbrev pub opened : {M : Type 1} {𝓤 : Ura M} → Logic 𝓤 → Row.Denot → Lft → Share → Share → ℕ → ℕ → List (Item 𝓤)
      → List (Item 𝓤)
  opened 𝓛 t κ q s b o Γ = ‵ (cell_at s TableData.mir (hand t) b o)
      ∷ (‵ (TableData.own_val (fields_of t) (hand t)) ⊛ Shut 𝓛 κ q (part_at TableData s (fields_of t) b o)) ∷ Γ

  -- the fields, shut
  abbrev pub fields_at : Row.Denot → Lft → ℕ → ℕ → Fml
  fields_at t κ b o = hidden_shr TableData κ (fields_of t) b o

  -- the age lasts for κ
  abbrev pub lasts : Row.Denot → Lft → Fml
  lasts t κ = fshr_bor κ (λ r. flft (age t.table_id) r)

  -- the open fields, and the rest that a `&` to the table has
  abbrev around : {M : Type 1} {𝓤 : Ura M} → Logic 𝓤 → Row.Denot → Lft → Share → Share → ℕ → ℕ → List (Item 𝓤)
      → List (Item 𝓤)
  around 𝓛 t κ q s b o Γ = opened 𝓛 t κ q s b o (‵ (fields_at t κ b o) ∷ ‵ (lasts t κ) ∷ ‵ (known t) ∷ Γ)

  module _ {M : Type 1} {𝓤 : Ura M} {𝓛 : Logic 𝓤} {K : Type 0} {Γ : List (Item 𝓤)} {G : Goal 𝓤 𝓛.H} (k : K)
      (soaks : Soaks G) (t : Row.Denot) {κ : Lft} {q : Share} (b o : ℕ) where
    -- a `&` to the table has its fields, which a statement may read, its age, which lasts, and its invariant
    pub reads_table : ((s : Share) → Seq K 𝓛 (around 𝓛 t κ q s b o Γ) G)
        → Seq K 𝓛 (‵ (hidden_shr Row κ t b o) ∷ ‵ (flft κ q) ∷ Γ) G
    unfolding Rattle.lent_table.specs.Lending.under
    reads_table next = let Here : Type 0 = Placed t.word t.value t.table_id in
        let codes = table.the_codes R.Denot W.Denot X.Denot Y.Denot R.coded W.coded X.coded Y.coded in
        use1 𝓛 (‵ (fields_at t κ b o) ⊛ ‵ (fhide (table.the_lent R W X Y g t (block_ptr b o) κ)))
        (lent_out 𝓛 (table.struct R W X Y g) (codes (phantom.the_row (Tuple (Y ∷ W ∷ X ∷ []))).coded)
        (table.the_heap R W X Y g) (table.the_lent R W X Y g) κ t b o) $
        split k $ move k (1 ∷ []) $ unhide k $ fsplit k $ move k (1 ∷ []) $
        use1 𝓛 (given Here (‵ (known t))) (fact_use 𝓤 _
        (placed 𝓛 R W.coded (g.holds t.key) t.word t.value t.table_id) (guard_i 𝓤 Here (sem 𝓛 (known t)))) $
        learn k (λ at. move k (2 ∷ 3 ∷ 1 ∷ []) $
        looks k soaks TableData (table_opens 𝓛) (fields_of t) b o (λ s vs. move k (1 ∷ []) $
        peeks k TableData (Is TableData) (shows 𝓛 TableData) (fields_of t) vs (λ is_so.
        let same : vs ≡ hand t = table_told t.word t.value vs is_so
        ∙ (λ i. hand_of (at_block t.word at.0 i) (at.1 i) ∷ []) in
        rewrite k 0 (λ (us : List Val). ‵ (TableData.own_val (fields_of t) us)) same refl $
        rewrite k 1 (λ (us : List Val). ‵ (cell_at s TableData.mir us b o)) same refl $
        move k (0 ∷ 2 ∷ []) $ join k $ move k (1 ∷ 0 ∷ []) $ next s)))

    pub shuts_table : (s : Share) → Step K 𝓛 (‵ (flft κ q) ∷ Γ) G (opened 𝓛 t κ q s b o Γ) G
    shuts_table s = step (λ next. move k (1 ∷ []) $ split k $ move k (2 ∷ 0 ∷ 1 ∷ []) $
        shuts k soaks TableData s (fields_of t) (hand t) b o $ next)

  -- the word's place, as a value
  abbrev word_at : Row.Denot → Val
  word_at t = vptr (block_of t.word) (count_of t.word)

  -- local i becomes the word's place, which the `&` in local j tells, and then a runs
  abbrev takes_place : ℕ → ℕ → Body → Body
  takes_place i j a = let there : Place = variable j (deref (lone TableData.mir) ∷ field 0 ∷ []) in
      seq (assign (variable i []) (rv_opd (copy there))) a

  module _ {M : Type 1} {𝓤 : Ura M} {𝓛 : Logic 𝓤} {K : Type 0} {Γ Δ : List (Item 𝓤)} {C : Calls 𝓤 𝓛.H}
      {Λ : Loops 𝓤 𝓛.H} {E : Env 𝓤 𝓛.H} {i j : ℕ} {a c : Body} {e : Post 𝓤 𝓛.H} (k : K) (t : Row.Denot) {κ : Lft}
      {q : Share} (b o : ℕ) where
    -- the code takes the word's place from the `&` to a local that was empty, and has the age's token for a step there
    pub reaches_word : {p : Share} → ((s : Share) → at 𝓛 j (around 𝓛 t κ q s b o Γ)
        ≡ ‵ (fat p (spot_of 𝓤 𝓛.H E j).0 (spot_of 𝓤 𝓛.H E j).1 zero (vptr b o)))
        → ((s : Share) → at 𝓛 i (around 𝓛 t κ q s b o Γ)
        ≡ ‵ (froom (spot_of 𝓤 𝓛.H E i).0 (spot_of 𝓤 𝓛.H E i).1 zero))
        → T (has_ty (spot_of 𝓤 𝓛.H E i).0 (word_at t)) × WT (word_at t)
        → ((s : Share) → set 𝓛 i (‵ (fat full_share (spot_of 𝓤 𝓛.H E i).0 (spot_of 𝓤 𝓛.H E i).1 zero (word_at t)))
        (around 𝓛 t κ q s b o Γ) ≡ around 𝓛 t κ q s b o Δ)
        → ((r : Share) → Seq K 𝓛 (‵ (fobor κ q (flft (age t.table_id) r)) ∷ ‵ (flft (age t.table_id) r)
        ∷ ‵ (fields_at t κ b o) ∷ ‵ (known t) ∷ Δ) (ends_block C Λ E a c e))
        → Seq K 𝓛 (‵ (hidden_shr Row κ t b o) ∷ ‵ (flft κ q) ∷ Γ) (runs C Λ E (seq (block (takes_place i j a)) c) e)
    reaches_word refers empty typed filled next = reads_table k tt t b o (λ s.
        let there = load k (through k (refers s) (fld k refl (stop k))) (look_in k 0 (sub k 0 refl (whole k))) in
        first k $ blocks k $ assigns k (of_opd k there) (from k (stop k))
        (init k (cell i (around 𝓛 t κ q s b o Γ)) (empty s) typed) $
        subst (λ (Ξ : List (Item 𝓤)). Seq K 𝓛 Ξ (ends_block C Λ E a c e)) (sym (filled s)) (
        shuts_table k tt t b o s $ move k (2 ∷ 0 ∷ []) $ shr_bor-open k tt (tokens_halve 𝓛 (age t.table_id)) next))
