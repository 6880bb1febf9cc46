-- The two plots go under the table's invariant, and the value's first round begins.
use Rattle.atomic_table.proofs.Names.{◌≡◌, ℕ, List, [], ◌∷◌, ◌++◌, refl, a_type, dcons, dnil, named, Val, vptr}
use Rattle.atomic_table.proofs.Names.{vstruct, inst_fn, SProp, emp, Lft, Share, Fml, ftrue, fsep, flft, ‵, raw, ◌⊛◌}
use Rattle.atomic_table.proofs.Names.{some, given, later, ◌$◌, ◌∵◌, !, qed, by, move, keep, drop, split, join, fsplit}
use Rattle.atomic_table.proofs.Names.{fsplit3, fjoin, fpack, pick, learn, heard, use0, use1, use3, split3, ◌⊑◌, await}
use Rattle.atomic_table.proofs.Names.{feq_i, stop, fld, of_opd, no_more, and_then, returns, enter, alloc_all, pass_all}
use Rattle.atomic_table.proofs.Names.{free_all, look_at, get, get_in, sets, agg, sub, whole, tables, yes, no}
use Rattle.atomic_table.proofs.Names.{RattleType, owns, Valss, types_at, plain, Ptr, nothing, param, bounded, Stays}
use Rattle.atomic_table.proofs.Names.{stay_dropped, walk_of, Goes-dropped, fact, fact_i, RefOf, u64, shr_vals}
use Rattle.atomic_table.proofs.Names.{shr_Tells, of_list, InBlock}
use Rattle.atomic_table.proofs.Walks.{proved, leaves}
use Rattle.atomic_table.proofs.Fields.{hand_of, hand_good, Ptr-Good, token_val, strip_of, pair_of, strip_good}
use Rattle.atomic_table.proofs.Fields.{dealt_good}
use denote.Param.Laws.{param_laws}
use Rattle.lent_table.specs.Table.{none, opening}
use Rattle.lent_table.specs.Lending.{TableId, table_owns, seat_owns}
use Rattle.lent_table.specs.inner.Lending.{plot_owns}
use Rattle.lent_table.specs.contracts.plot.Plot as plot
use Rattle.lent_table.specs.contracts.shared.Shared as table
use Rattle.lent_table.specs.contracts.shared.Seat as seat
use Rattle.lent_table.proofs.Fields.{plot_told, TableData, table_made, SeatData, seat_made}
use Rattle.lent_table.proofs.Dealing.{plot_is, deals}
use Rattle.lent_table.specs.contracts.shared.Shared.deal.{ended, clauses}
use Rattle.lent_table.specs.contracts.shared.Shared.deal.Key.{name as #self}
use Rattle.lent_table.proofs.shared.Shared.deal.Statement.{statement}
use Rattle.lent_table.proofs.shared.Shared.deal.Code as code

pub deal_spec : {M : Type 1} → statement M
deal_spec 𝓤 𝓛 𝓜 𝓡 wired T U Q P L _ _ _ g d _ =
    let H = 𝓛.H in let 𝓣 = tables 𝓤 H 𝓜 𝓡 𝓡.env in
    let R : RattleType = param 0 T in let W : RattleType = param 1 U in let X : RattleType = param 2 Q in
    let Y : RattleType = param 3 P in
    let En = ended T U Q P g d in let c = clauses T U Q P g d 𝓛 𝓜.mem 𝓡.returns in let laws = param_laws 0 T L in
    let inst = bounded (a_type ∷ a_type ∷ a_type ∷ a_type ∷ []) (T, (U, (Q, (P, tt)))) (dcons d dnil) in
    let fn = inst_fn inst code.function in
    let Row : RattleType = table.the_row R W X Y g in let Sr : RattleType = seat.the_row R W in
    let Wp : RattleType = plot.the_row u64 in let Vp : RattleType = plot.the_row R in
    let about = RefOf (0 ∷ []) tt (plain (λ _. X)) (λ _. tt) in
    let hs : Stays En.signature.params En.kept = (
      stay_dropped about yes,
      (
        stay_dropped (plain (λ _.
            Wp)) yes,
        (stay_dropped (plain (λ _. Vp)) no, tt),
      ),
    ) in
    proved 𝓛 En hs c 𝓜 𝓡 (
      Goes-dropped 𝓛 5 about yes (λ κs x f. refl),
      (
        Goes-dropped 𝓛 5 (plain (λ _.
            Wp)) yes (λ κs x f. refl),
        (Goes-dropped 𝓛 5 (plain (λ _. Vp)) no (λ κs x f. refl), tt),
      ),
    )
    (#self inst) fn (code.unfolded 𝓤 H 𝓜 𝓡 wired (T, (U, (Q, (P, tt)))) d)
    (λ κs. (shr_vals, ((λ x. strip_of x.at ∷ []), ((λ x. strip_of x.at ∷ []), tt))))
    (λ κs. (
      shr_Tells (named 0) κs.0 X,
      (
        (λ x vs so. plot_told u64 x.at vs so.0),
        (
          (λ x vs so.
              plot_told R x.at vs so.0),
          tt,
        ),
      ),
    )) (λ κs qs bounds a gh are.
    let key : Q.Denot = a.0.now in let at : Val = vptr a.0.ref_ptr.0 a.0.ref_ptr.1 in let w : Ptr = a.1.0.at in
    let n : ℕ = a.1.0.value in let p : Ptr = a.1.1.0.at in let x : T.Denot = a.1.1.0.value in
    let v : U.Denot = g.first key in let u : Val = pair_of (hand_of w p) token_val in let good = g.holds key in
    let τ : Lft = κs.1.0 in let e : Share = qs.1.0 in
    let y : (walk_of 𝓛 En hs c).Ghost = (
      (κs, qs, bounds, a, (at ∷ [], (strip_of w ∷ [], (strip_of p ∷ [], tt)))),
      gh,
    ) in let Post : Val → SProp 𝓤 = (walk_of 𝓛 En hs c).post y in
    let more : Fml = fsep (flft κs.1.1.0 qs.1.1.0) (fsep (flft κs.1.1.1.0 qs.1.1.1.0)
    (fsep (flft κs.1.1.1.1.0 qs.1.1.1.1.0) ftrue)) in
    qed 𝓛 (((‵ (flft κs.0 qs.0) ⊛ ‵ (flft τ e) ⊛ ‵ more) ⊛ ‵ (owns (types_at En.signature.params κs) a y.0.4))
    ∷ raw (fact 𝓤 (τ ⊑ T.lives)) ∷ raw (fact 𝓤 _) ∷ raw (fact 𝓤 _) ∷ raw (fact 𝓤 _)
    ∷ given (good (opening n v x)) (‵ ftrue) ∷ []) ∵
    keep ! (5 ∷ 1 ∷ 0 ∷ []) $ learn ! (λ asked. drop ! $ heard ! (τ ⊑ T.lives) (λ le. split ! $ split3 ! $
    move ! (3 ∷ []) $ fsplit ! $ drop ! $ fsplit3 ! $ fsplit ! $ drop ! $ move ! (1 ∷ []) $ fsplit ! $ drop ! $
    -- [the value's plot; the word's; the token of T; that of κ; the others]
    keep ! (0 ∷ 1 ∷ 4 ∷ 3 ∷ 5 ∷ []) $
    use1 𝓛 (given (InBlock p) (‵ (plot_owns R p x))) (plot_is 𝓛 R p x) $ learn ! (λ in_p. move ! (1 ∷ []) $
    use1 𝓛 (given (InBlock w) (‵ (plot_owns u64 w n))) (plot_is 𝓛 u64 w n) $ learn ! (λ in_w.
    enter ! 𝓣.C 𝓣.Λ fn (at ∷ strip_of w ∷ strip_of p ∷ []) Post $
    alloc_all ! (λ l. pass_all ! refl ((tt, tt), (strip_good w in_w, (strip_good p in_p, tt))) $
    use3 𝓛 (later (some (λ (z : TableId). given (InBlock w × InBlock p) (‵ (table_owns R W.coded.code good w p z)
    ⊛ ‵ (seat_owns R W.coded.code z 0 (v, none)) ⊛ ‵ (flft τ e)))))
    (deals 𝓛 R W.coded good w p laws.shr_laws R.lives (laws.shares 𝓛) τ e le n x v asked) $ await ! tt $
    pick ! (λ z. learn ! (λ _. split3 ! $
    let t : Row.Denot = record { word = w; value = p; marker = record {}; table_id = z; key = key } in
    let s : Sr.Denot = record { marker = record {}; table_id = z; id = 0; me = (v, none) } in
    let Places : Type 0 = (w ≡ w) × (p ≡ p) × (key ≡ key) in let Seated : Type 0 = (z ≡ z) × (s.me ≡ s.me) in
    use0 𝓛 (‵ ((TableData R W X Y g).own_val (w, (p, (tt, tt))) (hand_of w p ∷ []))) (table_made R W X Y g 𝓛 w p) $
    fjoin ! $ move ! (1 ∷ []) $
    use0 𝓛 (‵ ((SeatData R W).own_val (tt, tt) (token_val ∷ []))) (seat_made R W 𝓛) $ fjoin ! $ nothing ! $
    move ! (1 ∷ 0 ∷ []) $ fjoin ! $ move ! (1 ∷ 0 ∷ []) $ fjoin ! $
    feq_i ! (List Val) (u ∷ []) (u ∷ []) refl $ fjoin ! $
    fpack ! (Valss (Row ∷ Sr ∷ [])) (λ ws. fsep (base.Fml.feq (List Val) (u ∷ [])
    (vstruct (of_list (ws.0 ++ (ws.1.0 ++ []))) ∷ [])) (owns (Row ∷ Sr ∷ []) (t, (s, tt)) ws))
    (hand_of w p ∷ [], (token_val ∷ [], tt)) $
    sets ! (of_opd ! (get_in ! (fld ! refl (stop !)) (sub ! 0 refl (whole !)))) refl (Ptr-Good w in_w) $
    sets ! (of_opd ! (get_in ! (fld ! refl (stop !)) (sub ! 0 refl (whole !)))) refl (Ptr-Good p in_p) $
    sets ! (agg ! (no_more !)) refl (tt, tt) $
    sets ! (agg ! (and_then ! (get ! refl) (and_then ! (get ! refl) (and_then ! (get ! refl) (no_more !))))) refl
    (hand_good w p in_w in_p) $
    sets ! (agg ! (no_more !)) refl (tt, tt) $ sets ! (of_opd ! (get ! refl)) refl (hand_good w p in_w in_p) $
    sets ! (agg ! (and_then ! (get ! refl) (no_more !))) refl (
      tt,
      (tt, tt),
    ) $
    sets ! (agg ! (and_then ! (get ! refl) (and_then ! (get ! refl) (no_more !)))) refl (dealt_good w p in_w in_p) $
    use0 𝓛 (raw (fact 𝓤 Seated)) (fact_i 𝓤 Seated (emp 𝓤) (refl, refl)) $
    use0 𝓛 (raw (fact 𝓤 Places)) (fact_i 𝓤 Places (emp 𝓤) (refl, refl, refl)) $ join ! $
    nothing ! $ nothing ! $ fjoin ! $ nothing ! $ fjoin ! $ nothing ! $ fjoin ! $
    move ! (3 ∷ 5 ∷ []) $ join ! $ move ! (4 ∷ 0 ∷ []) $ join ! $
    returns ! (look_at ! 0 refl) $ free_all ! refl $ keep ! (0 ∷ 1 ∷ 3 ∷ 2 ∷ []) $
    by ! (leaves 𝓛 En hs c y u (t, s) (tt, (tt, (tt, tt))) (tt, (tt, (tt, tt))))))))))))
