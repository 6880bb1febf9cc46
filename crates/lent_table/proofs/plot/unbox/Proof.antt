-- `unbox` takes a box apart: into its value, by the pointer alone, and the right to free it.
use Rattle.std.proofs.Common.{◌≡◌, ◌&&◌, true, List, [], ◌∷◌, ◌++◌, sym, refl, ap, ◌∙◌, subst}
use mir.Syntax.{a_type, dcons, dnil}
use mir.Val.{Val, vptr, vstruct, vcons, vnil, of_list, has_ty}
use mir.MapTy.{inst_fn}
use mir.Raw.{raw as bare}
use base.Logic.{SProp, ent, emp, id⊢, fst∗, never}
use base.Fml.{ftrue, fsep, feq, flft}
use types.Logic.{sem}
use types.Kit.{Item, ‵, raw, ◌⊛◌, some, later, ◌$◌, ◌∵◌, !, qed, by, move, keep, drop, split, split3, join, fsplit}
use types.Kit.{fjoin, fpick, fpack, pick, use0, use1, await, rewrite, feq_i, feq_l, suffices}
use types.Run.{stop, fld, of_opd, no_more, and_then, returns, enter}
use types.ByLocal.{alloc_all, pass_all, free_all, look_at, get, get_in, sets, lands_as}
use types.Part.{agg, sub, whole}
use contract.Running.{tables}
use contract.Monad.{fact, fact_i}
use contract.BorrowLft.{◌⊑◌}
use prog.Wp.{WpFn}
use denote.Exit.{no}
use denote.RattleType.{RattleType, Valss, owns}
use denote.Signature.{plain}
use denote.RawPtr.{Ptr, InBlock, block_ptr, null_ptr, ptr_val, in_a_block}
use denote.Steps.{nothing, only, heard}
use denote.Param.{layout, bounded}
use denote.Builtin.{RawPtr}
use denote.Struct.Tuple.{Tuple}
use denote.Struct.Struct.{within}
use denote.Struct.Owning.{shape}
use denote.Triple.Spec.{triple_of}
use denote.Triple.Call.{calls_at}
use denote.Triple.Walked.{Stays, stay_dropped, walk_of}
use Rattle.core.proofs.alloc.Calls.{α, token, handle_tells, Goes-blank}
use Rattle.atomic_table.proofs.Walks.{proved_at, leaves}
use Rattle.atomic_table.proofs.Calls.{fm}
use Rattle.atomic_table.proofs.Fields.{strip_of}
use Rattle.std_alloc.specs.Box.Ownership.{box_owns}
use Rattle.std_alloc.proofs.BoxSteps.Form as box
use Rattle.std_alloc.proofs.BoxSteps.Steps.{box_out, box_in}
use Rattle.std_alloc.proofs.ResultValues.{and_tt}
use Rattle.std_alloc.specs.contracts.boxed.Box.into_raw_with_allocator as callee
use Rattle.std_alloc.proofs.boxed.Box.into_raw_with_allocator.Met as callee_met
use Rattle.lent_table.specs.contracts.plot.Plot as plot
use Rattle.lent_table.specs.contracts.plot.Deed as deed
use Rattle.lent_table.proofs.Fields.{PlotData, plot_made}
use Rattle.lent_table.specs.contracts.plot.unbox.{ended, clauses}
use Rattle.lent_table.specs.contracts.plot.unbox.Key.{name as #self}
use Rattle.lent_table.proofs.plot.unbox.Statement.{statement}
use Rattle.lent_table.proofs.plot.unbox.Code as code

pub unbox_spec : {M : Type 1} → statement M
unbox_spec 𝓤 𝓛 𝓜 𝓡 wired X A L LA g d dx dd met glue glued =
    let H = 𝓛.H in let 𝓣 = tables 𝓤 H 𝓜 𝓡 𝓡.env in
    let E : box.Bx = record { row = X; laws = L; al = record { row = A; laws = LA; g = g; d = d; drops = dd } } in
    let R : RattleType = box.R E in let Z : RattleType = box.P E in let B : RattleType = box.B E in
    let Pr : RattleType = plot.the_row R in let Dr : RattleType = deed.the_row R Z g in
    let En = ended X A g d dx dd in let c = clauses X A g d dx dd 𝓛 𝓜.mem 𝓡.returns in
    let inst = bounded (a_type ∷ a_type ∷ []) (X, (A, tt)) (dcons d (dcons dx (dcons dd dnil))) in
    let fn = inst_fn inst code.function in
    let Parts = triple_of 𝓛 (callee.signature X A g d dd dx) (callee.spec X A g d dd dx 𝓛 𝓜.mem 𝓡.returns) in
    let parts_met = callee_met.met 𝓤 𝓛 𝓜 𝓡 (code.calls-std_alloc::boxed::Box::into_raw_with_allocator 𝓡.env wired)
    X A L LA g d dd dx met glued glue in
    let hs : Stays En.signature.params En.kept = (stay_dropped (plain (λ _. B)) no, tt) in
    proved_at 𝓛 En hs c 𝓜 𝓡 (
      Goes-blank 𝓛 2 (plain (λ _. B)) no (λ κs x f.
          tt),
      tt,
    ) (#self inst) fn (code.unfolded 𝓤 H 𝓜 𝓡 wired (X, (A, tt)) d dx dd) (λ y are.
    let κs = y.0.0 in let qs = y.0.1 in let toks : Item 𝓤 = ‵ (flft κs.0 qs.0) ⊛ ‵ (flft κs.1.0 qs.1.0) ⊛ ‵ ftrue in
    let lives_x = κs.0 ⊑ X.lives in let lives_a = κs.1.0 ⊑ A.lives in let v : B.Denot = y.0.3.0 in
    let h : A.Denot = v.alloc in let x : X.Denot = v.value in
    let Post : Val → SProp 𝓤 = (walk_of 𝓛 En hs c).post y in
    let Run : List Val → SProp 𝓤 = λ ws. WpFn 𝓤 H 𝓣.C 𝓣.Λ fn ws Post in
    qed 𝓛 ((toks ⊛ ‵ (fsep (B.own_val v y.0.4.0) ftrue)) ∷ raw (fact 𝓤 lives_x) ∷ raw (fact 𝓤 lives_a) ∷ ‵ ftrue
    ∷ []) ∵
    move ! (1 ∷ 2 ∷ []) $ heard ! lives_x (λ in_x. heard ! lives_a (λ in_a. split ! $ move ! (1 ∷ []) $ fsplit ! $
    box_out E ! v y.0.4.0 (λ b o hv at ws fits. box_in E ! v b o x at refl $ keep ! (0 ∷ 2 ∷ []) $
    let w : Val = box.word E hv b o in let typed = box.box_typed E hv b o fits in
    let ask : Parts.Ghost = ((κs, qs, tt, (v, tt), (w ∷ [], tt)), tt) in
    suffices ! (Run (w ∷ [])) (subst (λ (us : List Val). ent 𝓤 (Run (w ∷ [])) (Run us)) (sym (λ i.
    ws i ++ [])) (id⊢ 𝓤 (Run (w ∷ [])))) $
    enter ! 𝓣.C 𝓣.Λ fn (w ∷ []) Post $ alloc_all ! (λ l. pass_all ! refl (typed, tt) $
    sets ! (of_opd ! (get ! refl)) refl typed $
    -- what the call takes: the tokens, the box, and the facts on lifetimes
    nothing ! $ move ! (1 ∷ 0 ∷ []) $ fjoin ! $ move ! (1 ∷ 0 ∷ []) $ join ! $ nothing ! $
    use0 𝓛 (raw (fact 𝓤 lives_a)) (fact_i 𝓤 lives_a (emp 𝓤) in_a) $ join ! $
    use0 𝓛 (raw (fact 𝓤 lives_x)) (fact_i 𝓤 lives_x (emp 𝓤) in_x) $ join ! $ move ! (1 ∷ 0 ∷ []) $ join ! $
    use1 𝓛 (raw (Parts.pre ask)) (id⊢ 𝓤 _) $
    calls_at ! (fm 𝓛 𝓜 𝓡) Parts parts_met ask (and_then ! (get ! refl) (no_more !)) (λ u.
    let Two = Tuple (RawPtr ∷ Z ∷ []) in
    use1 𝓛 (later (some (λ (r : Ptr × A.Denot). (toks ⊛ ‵ (Two.own_val r (u ∷ [])))
    ⊛ some (λ (_ : (Unit {0} × (Unit {0} × Unit {0})) × Unit {0}).
    ‵ (fsep (fsep ftrue (fsep ftrue ftrue)) ftrue) ⊛ (raw (fact 𝓤 (r.1 ≡ h))
    ⊛ ‵ (box_owns (token E.al h) R r.0 x)))))) (id⊢ 𝓤 _) $
    await ! tt $ pick ! (λ r. split ! $ move ! (1 ∷ []) $ pick ! (λ _. split3 ! $ drop ! $ heard ! (r.1 ≡ h) (λ same.
    in_a_block ! r.0 (λ p. box_owns (token E.al h) R p x)
    (fst∗ 𝓤 (never 𝓤) (sem 𝓛 (token E.al h (bare (layout X)) null_ptr))) (λ b' o' at'. let p : Ptr = block_ptr b' o' in
    fsplit ! $ move ! (2 ∷ []) $ split ! $ move ! (1 ∷ []) $ fpick ! (λ us. fsplit ! $ feq_l ! (λ eu. fsplit ! $
    feq_l ! (λ ep. fsplit ! $
    rewrite ! 0 (λ (s : A.Denot). ‵ (A.own_val s us.1.0)) same refl $ handle_tells E.al ! h us.1.0 (λ hw eh fits'.
    let w' : Val = box.word E hw b' o' in let typed' = box.box_typed E hw b' o' fits' in
    let out : Val = vstruct (vcons (strip_of p) (vcons w' vnil)) in
    let made : Pr.Denot = record { at = p; value = x } in let right : Dr.Denot = record { at = p; alloc = h } in
    let Told : Type 0 = (x ≡ x) × (p ≡ p) in
    lands_as ! (ap only (eu ∙ (λ j. vstruct (of_list ((ep ∙ ap (λ (π : Ptr). ptr_val π ∷ []) at') j ++
    (eh j ++ []))) ∷ []))) refl typed' $
    sets ! (of_opd ! (get_in ! (fld ! refl (stop !)) (sub ! 0 refl (whole !)))) refl (tt, tt) $
    sets ! (of_opd ! (get_in ! (fld ! refl (stop !)) (sub ! 1 refl (whole !)))) refl fits' $
    sets ! (agg ! (and_then ! (get ! refl) (no_more !))) refl (tt, (tt, tt)) $
    sets ! (of_opd ! (get ! refl)) refl fits' $
    sets ! (agg ! (and_then ! (get ! refl) (and_then ! (get ! refl) (no_more !)))) refl typed' $
    sets ! (agg ! (and_then ! (get ! refl) (and_then ! (get ! refl) (no_more !)))) refl
    (and_tt (has_ty (α E.al) hw && true) typed'.0, ((tt, tt), (typed'.1, tt))) $
    -- [the handle; nothing; the tokens; the value; the right to free]
    move ! (4 ∷ []) $ nothing ! $ fpack ! (InBlock p) (λ _. ftrue) tt $ fjoin ! $ move ! (1 ∷ []) $ nothing ! $
    move ! (1 ∷ 0 ∷ []) $ fjoin ! $
    feq_i ! (List Val) (vptr b' o' ∷ []) (vptr b' o' ∷ []) refl $ fjoin ! $
    feq_i ! (List Val) (w' ∷ []) (w' ∷ []) refl $ fjoin ! $
    fpack ! (Valss (RawPtr ∷ Z ∷ [])) (within (shape (deed.the_type R Z g)) (p, (h, tt)) (w' ∷ [])) (
      vptr b' o'
          ∷ [],
      (hw ∷ [], tt),
    ) $ fjoin ! $
    move ! (3 ∷ []) $ nothing ! $ fpack ! (InBlock p) (λ _. ftrue) tt $ fjoin ! $
    use0 𝓛 (‵ ((PlotData R).own_val (p, tt) (strip_of p ∷ []))) (plot_made R 𝓛 p) $ fjoin ! $
    nothing ! $ move ! (2 ∷ 0 ∷ []) $ fjoin ! $ move ! (1 ∷ 0 ∷ []) $ fjoin ! $
    feq_i ! (List Val) (out ∷ []) (out ∷ []) refl $ fjoin ! $
    fpack ! (Valss (Pr ∷ Dr ∷ [])) (λ vss. fsep (feq (List Val) (out ∷ [])
    (vstruct (of_list (vss.0 ++ (vss.1.0 ++ []))) ∷ [])) (owns (Pr ∷ Dr ∷ []) (made, (right, tt)) vss))
    (strip_of p ∷ [], (w' ∷ [], tt)) $
    use0 𝓛 (raw (fact 𝓤 Told)) (fact_i 𝓤 Told (emp 𝓤) (refl, refl)) $ nothing ! $ nothing ! $ fjoin ! $
    returns ! (look_at ! 0 refl) $ free_all ! refl $ keep ! (4 ∷ 0 ∷ 2 ∷ 1 ∷ []) $
    by ! (leaves 𝓛 En hs c y out (made, right) ((tt, (tt, tt)), tt) (tt, tt))))))))))))))))
