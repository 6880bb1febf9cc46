-- It calls `close`, and tells by `tell` that the table ended.
use Rattle.std.proofs.Common.{List, [], ◌∷◌, ◌++◌, refl, ap, ◌≡◌, ◌∙◌}
use Rattle.atomic_table.proofs.Names.{a_type, dcons, dnil, Val, vstruct, of_list, inst_fn, SProp, emp, Lft, Share, Fml}
use Rattle.atomic_table.proofs.Names.{ftrue, fsep, flft, ‵, raw, ◌⊛◌, some, later, ◌$◌, ◌∵◌, !, qed, by, move, keep}
use Rattle.atomic_table.proofs.Names.{drop, split, split3, join, fsplit, fsplit3, fjoin, fpick, fpack, pick, use0}
use Rattle.atomic_table.proofs.Names.{use1, await, rewrite, feq_l, of_opd, stop, fld, no_more, and_then, returns}
use Rattle.atomic_table.proofs.Names.{enter, alloc_all, pass_all, free_all, look_at, get, get_in, sub, whole, sets}
use Rattle.atomic_table.proofs.Names.{lands_as, tables, no, RattleType, owns, types_at, nothing, heard, peeks, only}
use Rattle.atomic_table.proofs.Names.{param, bounded, Stays, stay_dropped, walk_of, Goes-dropped, fact, fact_i}
use Rattle.atomic_table.proofs.Names.{Is as shown, shows, ◌⊑◌, calls_at, triple_of, id⊢, Tuple}
use Rattle.atomic_table.proofs.Walks.{proved_at, leaves}
use Rattle.atomic_table.proofs.Fields.{pair_of}
use Rattle.atomic_table.specs.Seated.{fact as known}
use prog.Wp.{WpFn}
use mir.Syntax.{Tys, tcons, tnil}
use types.Logic.{lfts}
use types.Kit.{prop, regoal, use2}
use base.Logic.{wand, apply∗}
use contract.BorrowLft.{⊑_trans, meet_⊑_left, meet_⊑_right}
use ghost.Rules.{Toks, span}
use types.Tokens.{one_token}
use denote.Builtin.{unit}
use denote.Param.{layout}
use denote.Param.Laws.{param_laws}
use denote.Signature.{plain}
use denote.Triple.Clauses.{Lasts, lasts}
use denote.Triple.Table.{framed}
use Rattle.lent_table.specs.Lending.{TableId, has_ended}
use Rattle.lent_table.specs.contracts.shared.Ended as ended_row
use Rattle.lent_table.specs.contracts.shared.Ended.tell as tell
use Rattle.lent_table.proofs.shared.Ended.TheLaws as ended_laws
use Rattle.lent_table.proofs.shared.Ended.tell.Met as tell_met
use Rattle.stamped_value.specs.contracts.view.ValueView as view
use Rattle.stamped_value.specs.contracts.kept.Kept as kept
use Rattle.stamped_value.specs.contracts.ruled.RuledValue as lock
use Rattle.stamped_value.specs.contracts.ruled.RuledValue.close as close
use Rattle.stamped_value.specs.Ends.{EndsWith}
use Rattle.stamped_value.proofs.OneValue.{one_value, pair_good}
use Rattle.stamped_value.proofs.view.ValueView.TheLaws as view_laws
use Rattle.stamped_value.proofs.kept.Kept.TheLaws as kept_laws
use Rattle.stamped_value.proofs.ruled.RuledValue.TheLaws as lock_laws
use Rattle.stamped_value.proofs.ruled.RuledValue.close.Met as close_met
use Rattle.stamped_value.specs.contracts.ruled.RuledValue.into_inner.{ended, clauses}
use Rattle.stamped_value.specs.contracts.ruled.RuledValue.into_inner.Key.{name as #self}
use Rattle.stamped_value.proofs.ruled.RuledValue.into_inner.Statement.{statement}
use Rattle.stamped_value.proofs.ruled.RuledValue.into_inner.Code as code
use Rattle.stamped_value.proofs.ruled.RuledValue.into_inner.Lts as lts

pub into_inner_spec : {M : Type 1} → statement M
into_inner_spec 𝓤 𝓛 𝓜 𝓡 wired T K L LK k d rule =
    let H = 𝓛.H in let 𝓣 = tables 𝓤 H 𝓜 𝓡 𝓡.env in
    let R : RattleType = param 0 T in let X : RattleType = param 1 K in
    let D : RattleType = kept.the_row R X k in let V : RattleType = view.the_row D in
    let LR = param_laws 0 T L in let LX = param_laws 1 K LK in
    let LV = view_laws.the_row_laws D (kept_laws.the_row_laws R X k LR LX) in
    let Er : RattleType = ended_row.the_row V in let P : RattleType = Tuple (R ∷ Er ∷ []) in
    let fields : Tys = tcons (layout R) (tcons (layout Er) tnil) in
    let En = ended T K k d in let c = clauses T K k d 𝓛 𝓜.mem 𝓡.returns in
    let inst = bounded (a_type ∷ a_type ∷ []) (T, (K, tt)) (dcons d dnil) in
    let fn = inst_fn inst code.function in
    let Row : RattleType = lock.the_row R X k in let slot = plain (λ _. Row) in
    let hs : Stays En.signature.params En.kept = (stay_dropped slot no, tt) in
    proved_at 𝓛 En hs c 𝓜 𝓡 (Goes-dropped 𝓛 2 slot no (λ κs x f. refl), tt) (#self inst) fn
    (code.unfolded 𝓤 H 𝓜 𝓡 wired (T, (K, tt)) d) (λ y are.
    let κs = y.0.0 in let qs = y.0.1 in let a = y.0.3 in
    let τ : Lft = κs.0 in let q : Share = qs.0 in let σ : Lft = κs.1.0 in let p : Share = qs.1.0 in
    let both : Toks = (τ, q) ∷ (σ, p) ∷ [] in let ρ : Lft = span both in
    let laws = lock_laws.the_row_laws R X k LR LX in
    let one = one_value (layout Row) y.0.4.0 ((laws.lawful 𝓛).typed a.0 y.0.4.0 are.0) in let v : Val = one.0 in
    let Gl = triple_of 𝓛 (close.signature T K k d) (close.spec T K k d 𝓛 𝓜.mem 𝓡.returns) in
    let z : Gl.Ghost = ((κs, qs, y.0.2, a, (v ∷ [], tt)), tt) in
    let U : RattleType = lts.arg-1-0 T K L LK k d (ρ, tt) in
    let LU = lts.laws-1-0 T K L LK k d (ρ, tt) in
    let Gt = triple_of 𝓛 (tell.signature U) (tell.spec U 𝓛 𝓜.mem 𝓡.returns) in
    let Post : Val → SProp 𝓤 = (walk_of 𝓛 En hs c).post y in
    let Is : List V.Denot → T.Denot → Type 0 = λ vs x. EndsWith a.0.limits a.0.first x vs in
    let alive = ‵ (flft τ q) ⊛ ‵ (fsep (flft σ p) ftrue) in
    qed 𝓛 ((alive ⊛ ‵ (owns (types_at En.signature.params κs) a y.0.4))
    ∷ raw (fact 𝓤 (τ ⊑ T.lives)) ∷ raw (fact 𝓤 (σ ⊑ K.lives)) ∷ ‵ ftrue ∷ []) ∵
    move ! (1 ∷ []) $ heard ! (τ ⊑ T.lives) (λ le. move ! (1 ∷ []) $ heard ! (σ ⊑ K.lives) (λ le'.
    let within = view_laws.the_within D ρ (kept_laws.the_within R X k ρ
    (⊑_trans ρ τ T.lives (meet_⊑_left τ σ) le) (⊑_trans ρ σ K.lives (meet_⊑_right τ σ) le')) in
    rewrite ! 0 (λ (us : List Val). alive ⊛ ‵ (owns (types_at En.signature.params κs) a (us, tt))) one.1 refl $
    move ! (1 ∷ []) $ use0 𝓛 (raw (fact 𝓤 (σ ⊑ K.lives))) (fact_i 𝓤 (σ ⊑ K.lives) (emp 𝓤) le') $ join ! $
    use0 𝓛 (raw (fact 𝓤 (τ ⊑ T.lives))) (fact_i 𝓤 (τ ⊑ T.lives) (emp 𝓤) le) $ join ! $
    move ! (1 ∷ 0 ∷ []) $ join ! $ use1 𝓛 (raw (Gl.pre z)) (id⊢ 𝓤 _) $
    regoal ! (λ (us : List Val). prop (WpFn 𝓤 H 𝓣.C 𝓣.Λ fn us Post)) (λ i. one.1 i ++ []) refl $
    enter ! 𝓣.C 𝓣.Λ fn (v ∷ []) Post $ alloc_all ! (λ l. pass_all ! refl (one.2, tt) $
    sets ! (of_opd ! (get ! refl)) refl one.2 $
    calls_at ! (framed 𝓤 H 𝓜 𝓣) Gl (close_met.met 𝓤 𝓛 𝓜 𝓡
    (code.calls-stamped_value::ruled::RuledValue::close 𝓡.env wired) T K L LK k d rule) z
    (and_then ! (get ! refl) (no_more !)) (λ u.
    use1 𝓛 (later (some (λ (r : P.Denot). (alive ⊛ ‵ (P.own_val r (u ∷ [])))
    ⊛ some (λ (ws : Lasts (close.ended T K k d) κs a). ‵ (lasts (close.ended T K k d) κs a ws)
    ⊛ (raw (fact 𝓤 (k.holds r.0)) ⊛ raw (fact 𝓤 (Is r.1.views r.0))
    ⊛ raw (fact 𝓤 (r.1.table_id ≡ a.0.table))))))) (id⊢ 𝓤 _) $
    await ! tt $ pick ! (λ r. split ! $ split ! $ move ! (2 ∷ []) $ pick ! (λ ws. split ! $ drop ! $ split3 ! $
    heard ! (k.holds r.0) (λ keeps. heard ! (Is r.1.views r.0) (λ so. heard ! (r.1.table_id ≡ a.0.table) (λ same.
    -- [the tokens; the pair]
    move ! (1 ∷ []) $ fpick ! (λ ps. fsplit ! $ feq_l ! (λ is_pair. fsplit3 ! $
    peeks ! R (shown R) (shows 𝓛 R) r.0 ps.0 (λ is_r. move ! (1 ∷ []) $
    peeks ! Er (shown Er) (shows 𝓛 Er) r.1 ps.1.0 (λ is_e.
    let one_r = one_value (layout R) ps.0 ((LR.lawful 𝓛).typed r.0 ps.0 is_r) in
    let one_e = one_value (layout Er) ps.1.0 (((ended_laws.the_row_laws V LV).lawful 𝓛).typed r.1 ps.1.0 is_e) in
    let x : Val = one_r.0 in let e : Val = one_e.0 in
    let is_u : u ≡ pair_of x e = ap only (is_pair ∙ (λ i. vstruct (of_list (one_r.1 i ++ (one_e.1 i ++ []))) ∷ [])) in
    rewrite ! 0 (λ (us : List Val). ‵ (Er.own_val r.1 us)) one_e.1 refl $
    rewrite ! 1 (λ (us : List Val). ‵ (R.own_val r.0 us)) one_r.1 refl $
    lands_as ! is_u refl (pair_good (layout R) (layout Er) x e one_r.2 one_e.2) $
    sets ! (of_opd ! (get_in ! (fld ! refl (stop !)) (sub ! {τs = fields} 0 refl (whole !)))) refl one_r.2 $
    sets ! (of_opd ! (get_in ! (fld ! refl (stop !)) (sub ! {τs = fields} 1 refl (whole !)))) refl one_e.2 $
    -- [how it ended; the value; nothing; the tokens], which are one token for the call
    move ! (3 ∷ []) $ split ! $ move ! (1 ∷ []) $ fsplit ! $ move ! (2 ∷ 0 ∷ []) $ join ! $
    use1 𝓛 (some (λ (s : Share). ‵ (flft ρ s) ⊛ raw (wand 𝓤 (𝓛.A.lft ρ s) (lfts 𝓛 both)))) (one_token 𝓛 both) $
    pick ! (λ s. split ! $ move ! (0 ∷ 2 ∷ []) $ fjoin ! $
    let z' : Gt.Ghost = (((ρ, tt), (s, tt), tt, (r.1, tt), (e ∷ [], tt)), tt) in
    let Some : Type 0 = (vs : List V.Denot) × Is vs r.0 in
    let gone : Fml = has_ended V.coded.code r.1.table_id r.1.views in
    nothing ! $ move ! (3 ∷ 0 ∷ []) $ join ! $ move ! (1 ∷ 0 ∷ []) $ join ! $
    nothing ! $ use0 𝓛 (raw (fact 𝓤 (ρ ⊑ V.lives))) (fact_i 𝓤 (ρ ⊑ V.lives) (emp 𝓤) within) $
    join ! $ move ! (1 ∷ 0 ∷ []) $ join ! $ use1 𝓛 (raw (Gt.pre z')) (id⊢ 𝓤 _) $
    calls_at ! (framed 𝓤 H 𝓜 𝓣) Gt (tell_met.met 𝓤 𝓛 𝓜 𝓡 (code.calls-lent_table::shared::Ended::tell 𝓡.env wired) U
    LU) z' (and_then ! (get ! refl) (no_more !)) (λ u'.
    use1 𝓛 (later (some (λ (e' : Unit {0}). (‵ (fsep (flft ρ s) ftrue) ⊛ ‵ (unit.own_val e' (u' ∷ [])))
    ⊛ some (λ (ws' : Lasts (tell.ended U) (ρ, tt) (r.1, tt)). ‵ (lasts (tell.ended U) (ρ, tt) (r.1, tt) ws')
    ⊛ ‵ gone)))) (id⊢ 𝓤 _) $
    await ! tt $ pick ! (λ e'. split ! $ split ! $ move ! (1 ∷ []) $ feq_l ! (λ is_unit.
    lands_as ! (ap only is_unit) refl (tt, tt) $ move ! (1 ∷ []) $ pick ! (λ ws'. split ! $ drop ! $
    -- [that the table ended; the one token; the way back to the two; the value]
    rewrite ! 0 (λ (i : TableId). ‵ (has_ended V.coded.code i r.1.views)) same refl $
    nothing ! $ fpack ! (Is r.1.views r.0) (λ _. ftrue) so $ fjoin ! $
    fpack ! (List V.Denot) (λ vs. fsep (known (Is vs r.0)) (has_ended V.coded.code a.0.table vs)) r.1.views $
    use0 𝓛 (raw (fact 𝓤 Some)) (fact_i 𝓤 Some (emp 𝓤) (r.1.views, so)) $ join ! $
    use0 𝓛 (raw (fact 𝓤 (k.holds r.0))) (fact_i 𝓤 (k.holds r.0) (emp 𝓤) keeps) $ join ! $
    move ! (1 ∷ []) $ fsplit ! $ move ! (0 ∷ 3 ∷ []) $
    use2 𝓛 (‵ (flft τ q) ⊛ ‵ (flft σ p)) (apply∗ 𝓤 (𝓛.A.lft ρ s) (lfts 𝓛 both)) $ split ! $ move ! (1 ∷ 2 ∷ []) $
    fjoin ! $ move ! (1 ∷ 0 ∷ []) $ join ! $
    sets ! (of_opd ! (get ! refl)) refl one_r.2 $
    nothing ! $ nothing ! $ fjoin ! $
    returns ! (look_at ! 0 refl) $ free_all ! refl $ keep ! (1 ∷ 0 ∷ 3 ∷ 2 ∷ []) $
    by ! (leaves 𝓛 En hs c y x r.0 (tt, tt) (tt, tt)))))))))))))))))))))
