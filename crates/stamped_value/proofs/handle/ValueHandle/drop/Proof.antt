-- The drop calls `leave`, and tells by `tell` that the seat left.
use Rattle.std.proofs.Common.{List, [], ◌∷◌, ◌++◌, refl, ap}
use Rattle.atomic_table.proofs.Names.{a_type, dcons, dnil, Val, vunit, inst_fn, SProp, emp, Lft, Share, Fml, ftrue}
use Rattle.atomic_table.proofs.Names.{fsep, flft, ‵, raw, ◌⊛◌, some, later, ◌$◌, ◌∵◌, !, qed, by, move, keep, drop}
use Rattle.atomic_table.proofs.Names.{split, join, fsplit, fjoin, fpack, pick, use0, use1, await, rewrite, feq_i, feq_l}
use Rattle.atomic_table.proofs.Names.{of_opd, unit_lit, no_more, and_then, returns, enter, alloc_all, pass_all}
use Rattle.atomic_table.proofs.Names.{free_all, look_at, get, sets, lands_as, tables, no, RattleType, owns, types_at}
use Rattle.atomic_table.proofs.Names.{nothing, heard, peeks, only, param, bounded, Stays, stay_dropped, walk_of}
use Rattle.atomic_table.proofs.Names.{Goes-dropped, fact, fact_i, Is, shows, ◌⊑◌, calls_at, triple_of, id⊢}
use Rattle.atomic_table.proofs.Walks.{proved_at, leaves}
use Rattle.atomic_table.specs.Seated.{fact as known}
use prog.Wp.{WpFn}
use types.Kit.{prop, regoal}
use denote.Builtin.{unit}
use denote.Param.{layout}
use denote.Param.Laws.{param_laws}
use denote.Signature.{plain, named_lft}
use denote.Triple.Clauses.{Lasts, lasts}
use denote.Triple.Table.{framed}
use Rattle.lent_table.specs.Lending.{has_left}
use Rattle.lent_table.specs.contracts.shared.Left as left
use Rattle.lent_table.specs.contracts.shared.Left.tell as tell
use Rattle.lent_table.proofs.shared.Left.TheLaws as left_laws
use Rattle.lent_table.proofs.shared.Left.tell.Met as tell_met
use Rattle.stamped_value.specs.contracts.view.ValueView as view
use Rattle.stamped_value.specs.contracts.handle.ValueHandle as handle
use Rattle.stamped_value.specs.contracts.handle.ValueHandle.leave as leave
use Rattle.stamped_value.specs.Leaving.{IsLeft}
use Rattle.stamped_value.proofs.OneValue.{one_value}
use Rattle.stamped_value.proofs.view.ValueView.TheLaws as view_laws
use Rattle.stamped_value.proofs.handle.ValueHandle.TheLaws as handle_laws
use Rattle.stamped_value.proofs.handle.ValueHandle.leave.Met as leave_met
use Rattle.stamped_value.specs.contracts.handle.ValueHandle.drop.{ended, clauses}
use Rattle.stamped_value.specs.contracts.handle.ValueHandle.drop.Key.{name as #self}
use Rattle.stamped_value.proofs.handle.ValueHandle.drop.Statement.{statement}
use Rattle.stamped_value.proofs.handle.ValueHandle.drop.Code as code
use Rattle.stamped_value.proofs.handle.ValueHandle.drop.Lts as lts

pub drop_spec : {M : Type 1} → statement M
drop_spec 𝓤 𝓛 𝓜 𝓡 wired T L d _ =
    let H = 𝓛.H in let 𝓣 = tables 𝓤 H 𝓜 𝓡 𝓡.env in
    let R : RattleType = param 0 T in let V : RattleType = view.the_row R in
    let LR = param_laws 0 T L in let LV = view_laws.the_row_laws R LR in
    let Lr : RattleType = left.the_row V in
    let En = ended T d in let c = clauses T d 𝓛 𝓜.mem 𝓡.returns in
    let inst = bounded (a_type ∷ []) (T, tt) (dcons d dnil) in
    let fn = inst_fn inst code.function in
    let slot = plain (λ κs. handle.the_row (named_lft 2 0 tt κs) R) in
    let hs : Stays En.signature.params En.kept = (stay_dropped slot no, tt) in
    proved_at 𝓛 En hs c 𝓜 𝓡 (Goes-dropped 𝓛 2 slot no (λ κs x f. refl), tt) (#self inst) fn
    (code.unfolded 𝓤 H 𝓜 𝓡 wired (T, tt) d) (λ y are.
    let κs = y.0.0 in let qs = y.0.1 in let a = y.0.3 in
    let τ : Lft = κs.1.0 in let q : Share = qs.1.0 in
    let Row : RattleType = handle.the_row (named_lft 2 0 tt κs) R in
    let laws = handle_laws.the_row_laws (named_lft 2 0 tt κs) R LR in
    let one = one_value (layout Row) y.0.4.0 ((laws.lawful 𝓛).typed a.0 y.0.4.0 are.0) in let v : Val = one.0 in
    let Gl = triple_of 𝓛 (leave.signature T) (leave.spec T 𝓛 𝓜.mem 𝓡.returns) in
    let z : Gl.Ghost = ((κs, qs, y.0.2, a, (v ∷ [], tt)), tt) in
    let U : RattleType = lts.arg-1-0 T L d (τ, tt) in
    let LU = lts.laws-1-0 T L d (τ, tt) in
    let Gt = triple_of 𝓛 (tell.signature U) (tell.spec U 𝓛 𝓜.mem 𝓡.returns) in
    let Post : Val → SProp 𝓤 = (walk_of 𝓛 En hs c).post y in
    let alive = ‵ (flft κs.0 qs.0) ⊛ ‵ (fsep (flft τ q) ftrue) in
    qed 𝓛 ((alive ⊛ ‵ (owns (types_at En.signature.params κs) a y.0.4))
    ∷ raw (fact 𝓤 (τ ⊑ T.lives)) ∷ ‵ ftrue ∷ []) ∵
    move ! (1 ∷ []) $ heard ! (τ ⊑ T.lives) (λ le.
    rewrite ! 0 (λ (us : List Val). alive ⊛ ‵ (owns (types_at En.signature.params κs) a (us, tt))) one.1 refl $
    move ! (1 ∷ []) $ use0 𝓛 (raw (fact 𝓤 (τ ⊑ T.lives))) (fact_i 𝓤 (τ ⊑ T.lives) (emp 𝓤) le) $ join ! $
    move ! (1 ∷ 0 ∷ []) $ join ! $ use1 𝓛 (raw (Gl.pre z)) (id⊢ 𝓤 _) $
    regoal ! (λ (us : List Val). prop (WpFn 𝓤 H 𝓣.C 𝓣.Λ fn us Post)) (λ i. one.1 i ++ []) refl $
    enter ! 𝓣.C 𝓣.Λ fn (v ∷ []) Post $ alloc_all ! (λ l. pass_all ! refl (one.2, tt) $
    sets ! (of_opd ! (get ! refl)) refl one.2 $
    calls_at ! (framed 𝓤 H 𝓜 𝓣) Gl (leave_met.met 𝓤 𝓛 𝓜 𝓡
    (code.calls-stamped_value::handle::ValueHandle::leave 𝓡.env wired) T L) z
    (and_then ! (get ! refl) (no_more !)) (λ u.
    use1 𝓛 (later (some (λ (r : Lr.Denot). (alive ⊛ ‵ (Lr.own_val r (u ∷ [])))
    ⊛ some (λ (ws : Lasts (leave.ended T) κs a). ‵ (lasts (leave.ended T) κs a ws)
    ⊛ raw (fact 𝓤 (IsLeft a.0 r)))))) (id⊢ 𝓤 _) $
    await ! tt $ pick ! (λ r. split ! $ split ! $ move ! (2 ∷ []) $ pick ! (λ ws. split ! $ drop ! $
    heard ! (IsLeft a.0 r) (λ so.
    -- [the tokens; what left]
    move ! (1 ∷ []) $ peeks ! Lr (Is Lr) (shows 𝓛 Lr) r (u ∷ []) (λ is.
    lands_as ! refl refl (((left_laws.the_row_laws V LV).lawful 𝓛).typed r (u ∷ []) is).0 $
    let z' : Gt.Ghost = (((τ, tt), (q, tt), tt, (r, tt), (u ∷ [], tt)), tt) in
    let gone : Fml = has_left V.coded.code r.table_id r.id r.view in
    move ! (1 ∷ []) $ split ! $ move ! (1 ∷ []) $ fsplit ! $ move ! (3 ∷ 2 ∷ 0 ∷ 1 ∷ []) $
    -- [what left; the tokens of the handle's lifetime, and of T]
    nothing ! $ move ! (1 ∷ 0 ∷ []) $ join ! $ nothing ! $ move ! (3 ∷ 0 ∷ []) $ join ! $ join ! $
    nothing ! $ use0 𝓛 (raw (fact 𝓤 (τ ⊑ V.lives))) (fact_i 𝓤 (τ ⊑ V.lives) (emp 𝓤) (view_laws.the_within R τ le)) $
    join ! $ move ! (1 ∷ 0 ∷ []) $ join ! $ use1 𝓛 (raw (Gt.pre z')) (id⊢ 𝓤 _) $
    calls_at ! (framed 𝓤 H 𝓜 𝓣) Gt (tell_met.met 𝓤 𝓛 𝓜 𝓡 (code.calls-lent_table::shared::Left::tell 𝓡.env wired) U
    LU) z' (and_then ! (get ! refl) (no_more !)) (λ u'.
    use1 𝓛 (later (some (λ (e : Unit {0}). ((‵ (flft τ q) ⊛ ‵ ftrue) ⊛ ‵ (unit.own_val e (u' ∷ [])))
    ⊛ some (λ (ws' : Lasts (tell.ended U) (τ, tt) (r, tt)). ‵ (lasts (tell.ended U) (τ, tt) (r, tt) ws')
    ⊛ ‵ gone)))) (id⊢ 𝓤 _) $
    await ! tt $ pick ! (λ e. split ! $ split ! $ split ! $ move ! (2 ∷ []) $ feq_l ! (λ is_unit.
    lands_as ! (ap only is_unit) refl (tt, tt) $ move ! (2 ∷ []) $ pick ! (λ ws'. split ! $ drop ! $
    -- [that the seat left; the token of T; nothing; the token of the handle's lifetime]
    nothing ! $ fpack ! (IsLeft a.0 r) (λ _. ftrue) so $ fjoin ! $
    fpack ! Lr.Denot (λ t. fsep (known (IsLeft a.0 t)) (has_left V.coded.code t.table_id t.id t.view)) r $
    sets ! (of_opd ! (unit_lit !)) refl (tt, tt) $
    move ! (1 ∷ 2 ∷ []) $ fjoin ! $ move ! (2 ∷ 0 ∷ []) $ join ! $
    feq_i ! (List Val) (vunit ∷ []) (vunit ∷ []) refl $ nothing ! $ nothing ! $ fjoin ! $
    returns ! (look_at ! 0 refl) $ free_all ! refl $ keep ! (2 ∷ 0 ∷ 1 ∷ 3 ∷ []) $
    by ! (leaves 𝓛 En hs c y vunit tt (tt, tt) (tt, tt))))))))))))))
