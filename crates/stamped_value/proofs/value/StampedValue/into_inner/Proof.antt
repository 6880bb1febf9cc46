-- It calls `close`, and tells by `tell` that the table ended.
use Rattle.std.proofs.Common.{List, [], ◌∷◌, ◌++◌, refl, ap, ◌≡◌, ◌∙◌}
use Rattle.atomic_table.proofs.Names.{a_type, Val, vstruct, of_list, inst_fn, SProp, emp, Lft, Share, Fml, ftrue, fsep}
use Rattle.atomic_table.proofs.Names.{flft, ‵, raw, ◌⊛◌, some, later, ◌$◌, ◌∵◌, !, qed, by, move, keep, drop, split}
use Rattle.atomic_table.proofs.Names.{join, fsplit, fsplit3, fjoin, fpick, fpack, pick, use0, use1, await, rewrite}
use Rattle.atomic_table.proofs.Names.{feq_l, of_opd, stop, fld, no_more, and_then, returns, enter, alloc_all, pass_all}
use Rattle.atomic_table.proofs.Names.{free_all, look_at, get, get_in, sub, whole, sets, lands_as, tables, no}
use Rattle.atomic_table.proofs.Names.{RattleType, owns, types_at, nothing, heard, peeks, only, param, layouts, Stays}
use Rattle.atomic_table.proofs.Names.{stay_dropped, walk_of, Goes-dropped, fact, fact_i, Is as shown, shows, ◌⊑◌}
use Rattle.atomic_table.proofs.Names.{calls_at, triple_of, id⊢, Tuple}
use Rattle.atomic_table.proofs.Walks.{proved_at, leaves}
use Rattle.atomic_table.proofs.Fields.{pair_of}
use Rattle.atomic_table.specs.Seated.{fact as known}
use prog.Wp.{WpFn}
use mir.Syntax.{Tys, tcons, tnil}
use types.Kit.{prop, regoal}
use denote.Builtin.{unit}
use denote.Param.{layout}
use denote.Param.Laws.{param_laws}
use denote.Signature.{plain}
use denote.Triple.Clauses.{Lasts, lasts}
use denote.Triple.Table.{framed}
use Rattle.std.specs.contracts.result.Result as result
use Rattle.std.proofs.result.Result.TheLaws as result_laws
use Rattle.lent_table.specs.Lending.{TableId, has_ended}
use Rattle.lent_table.specs.contracts.shared.Ended as ended_row
use Rattle.lent_table.specs.contracts.shared.Ended.tell as tell
use Rattle.lent_table.proofs.shared.Ended.TheLaws as ended_laws
use Rattle.lent_table.proofs.shared.Ended.tell.Met as tell_met
use Rattle.stamped_value.specs.contracts.view.ValueView as view
use Rattle.stamped_value.specs.contracts.value.StampedValue as lock
use Rattle.stamped_value.specs.contracts.value.StampedValue.close as close
use Rattle.stamped_value.specs.Ends.{EndsAs}
use Rattle.stamped_value.proofs.OneValue.{one_value, pair_good}
use Rattle.stamped_value.proofs.view.ValueView.TheLaws as view_laws
use Rattle.stamped_value.proofs.value.StampedValue.TheLaws as lock_laws
use Rattle.stamped_value.proofs.value.StampedValue.close.Met as close_met
use Rattle.stamped_value.specs.contracts.value.StampedValue.into_inner.{ended, clauses}
use Rattle.stamped_value.specs.contracts.value.StampedValue.into_inner.Key.{name as #self}
use Rattle.stamped_value.proofs.value.StampedValue.into_inner.Statement.{statement}
use Rattle.stamped_value.proofs.value.StampedValue.into_inner.Code as code
use Rattle.stamped_value.proofs.value.StampedValue.into_inner.Lts as lts

pub into_inner_spec : {M : Type 1} → statement M
into_inner_spec 𝓤 𝓛 𝓜 𝓡 wired T L =
    let H = 𝓛.H in let 𝓣 = tables 𝓤 H 𝓜 𝓡 𝓡.env in
    let R : RattleType = param 0 T in let V : RattleType = view.the_row R in
    let LR = param_laws 0 T L in let LV = view_laws.the_row_laws R LR in
    let Rr : RattleType = result.the_row R R in let Er : RattleType = ended_row.the_row V in
    let P : RattleType = Tuple (Rr ∷ Er ∷ []) in let fields : Tys = tcons (layout Rr) (tcons (layout Er) tnil) in
    let En = ended T in let c = clauses T 𝓛 𝓜.mem 𝓡.returns in
    let inst = layouts (a_type ∷ []) (T, tt) in
    let fn = inst_fn inst code.function in
    let Row : RattleType = lock.the_row R in
    let slot = plain (λ _. Row) in
    let hs : Stays En.signature.params En.kept = (stay_dropped slot no, tt) in
    proved_at 𝓛 En hs c 𝓜 𝓡 (Goes-dropped 𝓛 1 slot no (λ κs x f. refl), tt) (#self inst) fn
    (code.unfolded 𝓤 H 𝓜 𝓡 wired (T, tt)) (λ y are.
    let κs = y.0.0 in let qs = y.0.1 in let a = y.0.3 in
    let τ : Lft = κs.0 in let q : Share = qs.0 in
    let laws = lock_laws.the_row_laws R LR in
    let one = one_value (layout Row) y.0.4.0 ((laws.lawful 𝓛).typed a.0 y.0.4.0 are.0) in let v : Val = one.0 in
    let Gl = triple_of 𝓛 (close.signature T) (close.spec T 𝓛 𝓜.mem 𝓡.returns) in
    let z : Gl.Ghost = ((κs, qs, y.0.2, a, (v ∷ [], tt)), tt) in
    let U : RattleType = lts.arg-1-0 T L (τ, tt) in
    let LU = lts.laws-1-0 T L (τ, tt) in
    let Gt = triple_of 𝓛 (tell.signature U) (tell.spec U 𝓛 𝓜.mem 𝓡.returns) in
    let Post : Val → SProp 𝓤 = (walk_of 𝓛 En hs c).post y in
    let Is : List V.Denot → Rr.Denot → Type 0 = λ vs x. EndsAs a.0.limits a.0.first x vs in
    let alive = ‵ (fsep (flft τ q) ftrue) in
    qed 𝓛 ((alive ⊛ ‵ (owns (types_at En.signature.params κs) a y.0.4))
    ∷ raw (fact 𝓤 (τ ⊑ T.lives)) ∷ ‵ ftrue ∷ []) ∵
    move ! (1 ∷ []) $ heard ! (τ ⊑ T.lives) (λ le.
    rewrite ! 0 (λ (us : List Val). alive ⊛ ‵ (owns (types_at En.signature.params κs) a (us, tt))) one.1 refl $
    move ! (1 ∷ []) $ use0 𝓛 (raw (fact 𝓤 (τ ⊑ T.lives))) (fact_i 𝓤 (τ ⊑ T.lives) (emp 𝓤) le) $ join ! $
    move ! (1 ∷ 0 ∷ []) $ join ! $ use1 𝓛 (raw (Gl.pre z)) (id⊢ 𝓤 _) $
    regoal ! (λ (us : List Val). prop (WpFn 𝓤 H 𝓣.C 𝓣.Λ fn us Post)) (λ i. one.1 i ++ []) refl $
    enter ! 𝓣.C 𝓣.Λ fn (v ∷ []) Post $ alloc_all ! (λ l. pass_all ! refl (one.2, tt) $
    sets ! (of_opd ! (get ! refl)) refl one.2 $
    calls_at ! (framed 𝓤 H 𝓜 𝓣) Gl (close_met.met 𝓤 𝓛 𝓜 𝓡
    (code.calls-stamped_value::value::StampedValue::close 𝓡.env wired) T L) z
    (and_then ! (get ! refl) (no_more !)) (λ u.
    use1 𝓛 (later (some (λ (r : P.Denot). (alive ⊛ ‵ (P.own_val r (u ∷ [])))
    ⊛ some (λ (ws : Lasts (close.ended T) κs a). ‵ (lasts (close.ended T) κs a ws)
    ⊛ (raw (fact 𝓤 (Is r.1.views r.0)) ⊛ raw (fact 𝓤 (r.1.table_id ≡ a.0.table))))))) (id⊢ 𝓤 _) $
    await ! tt $ pick ! (λ r. split ! $ split ! $ move ! (2 ∷ []) $ pick ! (λ ws. split ! $ drop ! $ split ! $
    heard ! (Is r.1.views r.0) (λ so. heard ! (r.1.table_id ≡ a.0.table) (λ same.
    -- [the tokens; the pair]
    move ! (1 ∷ []) $ fpick ! (λ ps. fsplit ! $ feq_l ! (λ is_pair. fsplit3 ! $
    peeks ! Rr (shown Rr) (shows 𝓛 Rr) r.0 ps.0 (λ is_r. move ! (1 ∷ []) $
    peeks ! Er (shown Er) (shows 𝓛 Er) r.1 ps.1.0 (λ is_e.
    let one_r = one_value (layout Rr) ps.0 (((result_laws.the_row_laws R R LR LR).lawful 𝓛).typed r.0 ps.0 is_r) in
    let one_e = one_value (layout Er) ps.1.0 (((ended_laws.the_row_laws V LV).lawful 𝓛).typed r.1 ps.1.0 is_e) in
    let x : Val = one_r.0 in let e : Val = one_e.0 in
    let is_u : u ≡ pair_of x e = ap only (is_pair ∙ (λ i. vstruct (of_list (one_r.1 i ++ (one_e.1 i ++ []))) ∷ [])) in
    rewrite ! 0 (λ (us : List Val). ‵ (Er.own_val r.1 us)) one_e.1 refl $
    rewrite ! 1 (λ (us : List Val). ‵ (Rr.own_val r.0 us)) one_r.1 refl $
    lands_as ! is_u refl (pair_good (layout Rr) (layout Er) x e one_r.2 one_e.2) $
    sets ! (of_opd ! (get_in ! (fld ! refl (stop !)) (sub ! {τs = fields} 0 refl (whole !)))) refl one_r.2 $
    sets ! (of_opd ! (get_in ! (fld ! refl (stop !)) (sub ! {τs = fields} 1 refl (whole !)))) refl one_e.2 $
    -- [how it ended; the result; nothing; the token of T]
    let z' : Gt.Ghost = (((τ, tt), (q, tt), tt, (r.1, tt), (e ∷ [], tt)), tt) in
    let Some : Type 0 = (vs : List V.Denot) × Is vs r.0 in
    let gone : Fml = has_ended V.coded.code r.1.table_id r.1.views in
    nothing ! $ move ! (1 ∷ 0 ∷ []) $ join ! $ move ! (3 ∷ 0 ∷ []) $ join ! $
    nothing ! $ use0 𝓛 (raw (fact 𝓤 (τ ⊑ V.lives))) (fact_i 𝓤 (τ ⊑ V.lives) (emp 𝓤) (view_laws.the_within R τ le)) $
    join ! $ move ! (1 ∷ 0 ∷ []) $ join ! $ use1 𝓛 (raw (Gt.pre z')) (id⊢ 𝓤 _) $
    calls_at ! (framed 𝓤 H 𝓜 𝓣) Gt (tell_met.met 𝓤 𝓛 𝓜 𝓡 (code.calls-lent_table::shared::Ended::tell 𝓡.env wired) U
    LU) z' (and_then ! (get ! refl) (no_more !)) (λ u'.
    use1 𝓛 (later (some (λ (e' : Unit {0}). (alive ⊛ ‵ (unit.own_val e' (u' ∷ [])))
    ⊛ some (λ (ws' : Lasts (tell.ended U) (τ, tt) (r.1, tt)). ‵ (lasts (tell.ended U) (τ, tt) (r.1, tt) ws')
    ⊛ ‵ gone)))) (id⊢ 𝓤 _) $
    await ! tt $ pick ! (λ e'. split ! $ split ! $ move ! (1 ∷ []) $ feq_l ! (λ is_unit.
    lands_as ! (ap only is_unit) refl (tt, tt) $ move ! (1 ∷ []) $ pick ! (λ ws'. split ! $ drop ! $
    -- [that the table ended; the token of T; the result]
    rewrite ! 0 (λ (i : TableId). ‵ (has_ended V.coded.code i r.1.views)) same refl $
    nothing ! $ fpack ! (Is r.1.views r.0) (λ _. ftrue) so $ fjoin ! $
    fpack ! (List V.Denot) (λ vs. fsep (known (Is vs r.0)) (has_ended V.coded.code a.0.table vs)) r.1.views $
    use0 𝓛 (raw (fact 𝓤 Some)) (fact_i 𝓤 Some (emp 𝓤) (r.1.views, so)) $ join ! $
    sets ! (of_opd ! (get ! refl)) refl one_r.2 $
    nothing ! $ nothing ! $ fjoin ! $
    returns ! (look_at ! 0 refl) $ free_all ! refl $ keep ! (2 ∷ 0 ∷ 3 ∷ 1 ∷ []) $
    by ! (leaves 𝓛 En hs c y x r.0 (tt, tt) (tt, tt))))))))))))))))))
