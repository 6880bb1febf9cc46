-- `rebox` makes the box again.
use Rattle.std.proofs.Common.{◌≡◌, ℕ, T, List, [], ◌∷◌, ◌++◌, sym, refl, ap, ◌∙◌, subst}
use mir.Syntax.{a_type, dcons, dnil}
use mir.Val.{Val, vptr, vstruct, of_list, has_ty, WT}
use mir.MapTy.{inst_fn}
use mir.Raw.{raw as bare}
use base.Fraction.{full_share}
use base.Logic.{SProp, ent, emp, id⊢}
use base.Fml.{ftrue, fsep, flft}
use types.Kit.{Item, ‵, raw, ◌⊛◌, some, given, later, at_ret, ◌$◌, ◌∵◌, !, qed, by, move, keep, drop, split, split3}
use types.Kit.{join, fsplit, fsplit3, fjoin, fjoin3, fpick, pick, learn, use0, use1, await, rewrite, feq_i, feq_l}
use types.Kit.{suffices}
use types.Run.{stop, fld, of_opd, no_more, and_then, first, blocks, exec, returns, enter}
use types.ByLocal.{alloc_all, pass_all, free_all, look_at, get, get_in, sets, lands_last, is, env}
use types.Part.{sub, whole}
use contract.Running.{tables}
use contract.Monad.{fact, fact_i}
use contract.BorrowLft.{◌⊑◌}
use prog.Wp.{WpFn}
use denote.Exit.{no}
use denote.Memory.{part_at}
use denote.RattleType.{RattleType}
use denote.Signature.{plain}
use denote.RawPtr.{Ptr, InBlock, block_ptr, ptr_val, block_of, count_of, at_block}
use denote.Steps.{nothing, only, heard}
use denote.Param.{layout, bounded}
use denote.Triple.Clauses.{Lasts, lasts}
use denote.Triple.Spec.{triple_of}
use denote.Triple.Call.{calls_at_last}
use denote.Triple.Walked.{Stays, stay_dropped, walk_of, Goes-dropped}
use Rattle.core.proofs.alloc.Calls.{token, handle_tells, Goes-blank}
use Rattle.core.proofs.atomic.Steps.{tail}
use Rattle.atomic_table.proofs.Walks.{proved_at, leaves}
use Rattle.atomic_table.proofs.Calls.{fm}
use Rattle.atomic_table.proofs.Fields.{strip_of, strip_good}
use Rattle.std_alloc.proofs.BoxSteps.Form as box
use Rattle.std_alloc.proofs.BoxSteps.Steps.{box_out, box_in}
use Rattle.std_alloc.specs.contracts.boxed.Box.from_raw as callee
use Rattle.std_alloc.proofs.boxed.Box.from_raw.Met as callee_met
use Rattle.lent_table.specs.contracts.plot.Plot as plot
use Rattle.lent_table.specs.contracts.plot.Deed as deed
use Rattle.lent_table.proofs.Fields.{plot_told}
use Rattle.lent_table.proofs.Dealing.{plot_lies}
use Rattle.lent_table.specs.contracts.plot.rebox.{ended, clauses}
use Rattle.lent_table.specs.contracts.plot.rebox.Key.{name as #self}
use Rattle.lent_table.proofs.plot.rebox.Statement.{statement}
use Rattle.lent_table.proofs.plot.rebox.Code as code

pub rebox_spec : {M : Type 1} → statement M
rebox_spec 𝓤 𝓛 𝓜 𝓡 wired X A L LA g d dd met glue =
    let H = 𝓛.H in let 𝓣 = tables 𝓤 H 𝓜 𝓡 𝓡.env in
    let E : box.Bx = record { row = X; laws = L; al = record { row = A; laws = LA; g = g; d = d; drops = dd } } in
    let R : RattleType = box.R E in let Z : RattleType = box.P E in let B : RattleType = box.B E in
    let Pr : RattleType = plot.the_row R in let Dr : RattleType = deed.the_row R Z g in
    let En = ended X A g d dd in let c = clauses X A g d dd 𝓛 𝓜.mem 𝓡.returns in
    let inst = bounded (a_type ∷ a_type ∷ []) (X, (A, tt)) (dcons d (dcons dd dnil)) in
    let fn = inst_fn inst code.function in
    let Made = triple_of 𝓛 (callee.signature X A g d dd) (callee.spec X A g d dd 𝓛 𝓜.mem 𝓡.returns) in
    let Ce = callee.ended X A g d dd in
    let made_met = callee_met.met 𝓤 𝓛 𝓜 𝓡 (code.calls-std_alloc::boxed::Box::from_raw 𝓡.env wired)
    X A L LA g d dd met glue in
    let hs : Stays En.signature.params En.kept = (
      stay_dropped (plain (λ _. Pr)) no,
      (
        stay_dropped (plain (λ _.
            Dr)) no,
        tt,
      ),
    ) in
    proved_at 𝓛 En hs c 𝓜 𝓡 (
      Goes-dropped 𝓛 2 (plain (λ _. Pr)) no (λ κs x f. refl),
      (
        Goes-blank 𝓛 2 (plain (λ _.
            Dr)) no (λ κs x f. tt),
        tt,
      ),
    ) (#self inst) fn
    (code.unfolded 𝓤 H 𝓜 𝓡 wired (X, (A, tt)) d dd) (λ y are.
    let κs = y.0.0 in let qs = y.0.1 in let toks : Item 𝓤 = ‵ (flft κs.0 qs.0) ⊛ ‵ (flft κs.1.0 qs.1.0) ⊛ ‵ ftrue in
    let lives_x = κs.0 ⊑ X.lives in let lives_a = κs.1.0 ⊑ A.lives in
    let v : Pr.Denot = y.0.3.0 in let r : Dr.Denot = y.0.3.1.0 in let p : Ptr = v.at in
    let x : X.Denot = v.value in let h : A.Denot = r.alloc in let b : ℕ = block_of p in let o : ℕ = count_of p in
    let Post : Val → SProp 𝓤 = (walk_of 𝓛 En hs c).post y in
    let Run : List Val → SProp 𝓤 = λ ws. WpFn 𝓤 H 𝓣.C 𝓣.Λ fn ws Post in
    qed 𝓛 ((toks ⊛ ‵ (fsep (Pr.own_val v y.0.4.0) (fsep (Dr.own_val r y.0.4.1.0) ftrue))) ∷ raw (fact 𝓤 lives_x)
    ∷ raw (fact 𝓤 lives_a) ∷ raw (fact 𝓤 (r.at ≡ p)) ∷ []) ∵
    move ! (1 ∷ 2 ∷ 3 ∷ []) $ heard ! lives_x (λ in_x. heard ! lives_a (λ in_a. heard ! (r.at ≡ p) (λ same.
    split ! $ move ! (1 ∷ []) $ fsplit3 ! $ fsplit ! $ drop ! $
    use1 𝓛 (given (InBlock p) (‵ (part_at R full_share x b o))) (plot_lies 𝓛 R p x) $
    learn ! (λ in_p. let at : p ≡ block_ptr b o = at_block p in_p in
    move ! (1 ∷ []) $ fsplit ! $ fpick ! (λ us. fsplit ! $ feq_l ! (λ eu. fsplit ! $ feq_l ! (λ ep. fsplit ! $
    handle_tells E.al ! h us.1.0 (λ hv eh fits.
    -- [the handle; nothing; the right to free; the value; nothing; the tokens]
    move ! (2 ∷ []) $ fsplit ! $ drop ! $ rewrite ! 0 (λ (q : Ptr). ‵ (token E.al h (bare (layout X)) q))
    (same ∙ at) refl $
    let w : Val = box.word E hv b o in let typed = box.box_typed E hv b o fits in
    let ws : List Val = strip_of p ∷ w ∷ [] in
    let told : y.0.4.0 ≡ strip_of p ∷ [] = plot_told R p y.0.4.0 are.0.0 in
    let boxed : y.0.4.1.0 ≡ w ∷ [] = eu ∙ (λ j. vstruct
    (of_list ((ep ∙ ap (λ (π : Ptr). ptr_val π ∷ []) (same ∙ at)) j ++ (eh j ++ []))) ∷ []) in
    let ask : Made.Ghost = ((κs, qs, tt, (h, (block_ptr b o, tt)), (hv ∷ [], (vptr b o ∷ [], tt))), x) in
    suffices ! (Run ws) (subst (λ (vs : List Val). ent 𝓤 (Run ws) (Run vs)) (sym (λ i.
    told i ++ (boxed i ++ []))) (id⊢ 𝓤 (Run ws))) $ keep ! (0 ∷ 1 ∷ 3 ∷ 5 ∷ []) $
    enter ! 𝓣.C 𝓣.Λ fn ws Post $ alloc_all ! (λ l. pass_all ! refl (strip_good p in_p, (typed, tt)) $
    let Ev = env fn.locals l in
    sets ! (is ! (of_opd ! (get_in ! (fld ! refl (stop !)) (sub ! 0 refl (whole !)))) (ap ptr_val at)) refl (tt, tt) $
    sets ! (of_opd ! (get_in ! (fld ! refl (stop !)) (sub ! 1 refl (whole !)))) refl fits $ first ! $ blocks ! $
    sets ! (of_opd ! (get ! refl)) refl fits $
    -- what the call takes: the tokens, the handle and the pointer, the facts on lifetimes, and the memory with the
    -- right to free it
    move ! (2 ∷ 0 ∷ []) $ fjoin ! $ use0 𝓛 (raw (fact 𝓤 lives_a)) (fact_i 𝓤 lives_a (emp 𝓤) in_a) $ join ! $
    use0 𝓛 (raw (fact 𝓤 lives_x)) (fact_i 𝓤 lives_x (emp 𝓤) in_x) $ join ! $
    nothing ! $ feq_i ! (List Val) (vptr b o ∷ []) (vptr b o ∷ []) refl $ move ! (3 ∷ 0 ∷ 1 ∷ []) $ fjoin3 ! $
    move ! (2 ∷ 0 ∷ []) $ join ! $ join ! $ use1 𝓛 (raw (Made.pre ask)) (id⊢ 𝓤 _) $
    calls_at_last ! (fm 𝓛 𝓜 𝓡) Made made_met ask (and_then ! (get ! refl) (and_then ! (get ! refl) (no_more !))) (λ u.
    use1 𝓛 (later (some (λ (out : B.Denot). (toks ⊛ ‵ (B.own_val out (u ∷ [])))
    ⊛ some (λ (ls : Lasts Ce κs (h, (block_ptr b o, tt))).
    ‵ (lasts Ce κs (h, (block_ptr b o, tt)) ls) ⊛ (raw (fact 𝓤 (out.value ≡ x)) ⊛ raw (fact 𝓤 (out.alloc ≡ h)))))))
    (id⊢ 𝓤 _) $
    await ! tt $ pick ! (λ out. split ! $ move ! (1 ∷ []) $ pick ! (λ _. split3 ! $ drop ! $ move ! (1 ∷ []) $
    drop ! $ heard ! (out.value ≡ x) (λ kept. split ! $ move ! (1 ∷ []) $
    box_out E ! out (u ∷ []) (λ b' o' hw e' us' fits'. box_in E ! out b' o' out.value e' refl $
    let w' : Val = box.word E hw b' o' in let typed' = box.box_typed E hw b' o' fits' in
    let here : u ≡ w' = ap only us' in
    lands_last ! refl (subst (λ (s : Val). T (has_ty (box.box_ty E) s) × WT s) (sym here) typed') $
    exec ! 𝓣.C 𝓣.Λ Ev (tail (tail (tail fn.body))) (at_ret Ev Post) $
    sets ! (is ! (of_opd ! (get ! refl)) here) refl typed' $
    use0 𝓛 (raw (fact 𝓤 (out.value ≡ x))) (fact_i 𝓤 (out.value ≡ x) (emp 𝓤) kept) $
    nothing ! $ nothing ! $ fjoin ! $ nothing ! $ fjoin ! $ returns ! (look_at ! 0 refl) $ free_all ! refl $
    keep ! (3 ∷ 0 ∷ 2 ∷ 1 ∷ []) $
    by ! (leaves 𝓛 En hs c y w' out (tt, ((tt, (tt, tt)), tt)) (tt, (tt, tt))))))))))))))))))
