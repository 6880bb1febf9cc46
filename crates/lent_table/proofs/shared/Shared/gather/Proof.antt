-- The table's age ends, and the word and the value come back.
use Rattle.atomic_table.proofs.Names.{◌≡◌, ℕ, List, [], ◌∷◌, ◌++◌, refl, a_type, dcons, dnil, Val, vstruct, inst_fn}
use Rattle.atomic_table.proofs.Names.{SProp, emp, Fml, fsep, ‵, raw, ◌⊛◌, some, given, later, ◌$◌, ◌∵◌, !, qed, by}
use Rattle.atomic_table.proofs.Names.{move, keep, split, join, fsplit, fjoin, fpack, pick, learn, use0, use1, split3}
use Rattle.atomic_table.proofs.Names.{await, feq_i, stop, fld, of_opd, no_more, and_then, returns, enter, alloc_all}
use Rattle.atomic_table.proofs.Names.{pass_all, free_all, look_at, get, get_in, sets, agg, sub, whole, tables, no}
use Rattle.atomic_table.proofs.Names.{RattleType, owns, Valss, types_at, plain, Ptr, nothing, param, bounded, alive}
use Rattle.atomic_table.proofs.Names.{Stays, stay_dropped, walk_of, Goes-dropped, fact, fact_i, u64, of_list, InBlock}
use Rattle.atomic_table.proofs.Walks.{proved, leaves}
use Rattle.atomic_table.proofs.Fields.{hand_of, hand_good, Ptr-Good, strip_of, strip_good, token_val}
use Rattle.lent_table.specs.Table.{Closes}
use Rattle.lent_table.specs.Lending.{TableId, table_owns, has_ended}
use Rattle.lent_table.specs.inner.Lending.{plot_owns}
use Rattle.lent_table.specs.contracts.plot.Plot as plot
use Rattle.lent_table.specs.contracts.shared.Shared as table
use Rattle.lent_table.specs.contracts.shared.Ended as ended_table
use Rattle.lent_table.proofs.Fields.{PlotData, plot_made, table_told, EndedData, ended_made, gathered_of}
use Rattle.lent_table.proofs.Fields.{gathered_good}
use Rattle.lent_table.proofs.Dealing.{table_lies, gathers}
use Rattle.lent_table.specs.contracts.shared.Shared.gather.{ended, clauses}
use Rattle.lent_table.specs.contracts.shared.Shared.gather.Key.{name as #self}
use Rattle.lent_table.proofs.shared.Shared.gather.Statement.{statement}
use Rattle.lent_table.proofs.shared.Shared.gather.Code as code

pub gather_spec : {M : Type 1} → statement M
gather_spec 𝓤 𝓛 𝓜 𝓡 wired T U Q P _ _ _ _ g d _ =
    let H = 𝓛.H in let 𝓣 = tables 𝓤 H 𝓜 𝓡 𝓡.env in
    let R : RattleType = param 0 T in let W : RattleType = param 1 U in let X : RattleType = param 2 Q in
    let Y : RattleType = param 3 P in
    let En = ended T U Q P g d in let c = clauses T U Q P g d 𝓛 𝓜.mem 𝓡.returns in
    let inst = bounded (a_type ∷ a_type ∷ a_type ∷ a_type ∷ []) (T, (U, (Q, (P, tt)))) (dcons d dnil) in
    let fn = inst_fn inst code.function in
    let Row : RattleType = table.the_row R W X Y g in let Wp : RattleType = plot.the_row u64 in
    let Vp : RattleType = plot.the_row R in let Er : RattleType = ended_table.the_row W in
    let hs : Stays En.signature.params En.kept = (stay_dropped (plain (λ _. Row)) no, tt) in
    proved 𝓛 En hs c 𝓜 𝓡 (
      Goes-dropped 𝓛 4 (plain (λ _. Row)) no (λ κs x f.
          refl),
      tt,
    ) (#self inst) fn (code.unfolded 𝓤 H 𝓜 𝓡 wired (T, (U, (Q, (P, tt)))) d)
    (λ κs. ((λ x. hand_of x.word x.value ∷ []), tt)) (λ κs. (
      (λ x vs so.
          table_told R W X Y g x.word x.value vs so.0),
      tt,
    )) (λ κs qs bounds a gh are.
    let t : Row.Denot = a.0 in let w : Ptr = t.word in let p : Ptr = t.value in let z : TableId = t.table_id in
    let u : Val = gathered_of w p in let good = g.holds t.key in
    let y : (walk_of 𝓛 En hs c).Ghost = ((κs, qs, bounds, a, (hand_of w p ∷ [], tt)), gh) in
    let Post : Val → SProp 𝓤 = (walk_of 𝓛 En hs c).post y in
    let All : Fml = table_owns R W.coded.code good w p z in let Lain : Type 0 = InBlock w × InBlock p in
    qed 𝓛 ((raw (alive 𝓛 En.signature κs qs) ⊛ ‵ (owns (types_at En.signature.params κs) a y.0.4))
    ∷ raw ((c κs a).requires gh) ∷ []) ∵
    split ! $ move ! (1 ∷ []) $ fsplit ! $ fsplit ! $ keep ! (1 ∷ 3 ∷ []) $
    use1 𝓛 (given Lain (‵ All)) (table_lies 𝓛 R W.coded good w p z) $ learn ! (λ at.
    enter ! 𝓣.C 𝓣.Λ fn (hand_of w p ∷ []) Post $ alloc_all ! (λ l. pass_all ! refl (hand_good w p at.0 at.1, tt) $
    use1 𝓛 (later (some (λ (r : ℕ × T.Denot × List U.Denot).
    given (Closes good r.0 r.1 r.2 × InBlock w × InBlock p)
    (‵ (plot_owns u64 w r.0) ⊛ ‵ (plot_owns R p r.1) ⊛ ‵ (has_ended W.coded.code z r.2)))))
    (gathers 𝓛 R W.coded good w p z) $ await ! tt $ pick ! (λ r. learn ! (λ so. split3 ! $
    -- [the word's plot; the value's; how it ended; the tokens]
    let word : Wp.Denot = record { at = w; value = r.0 } in let value : Vp.Denot = record { at = p; value = r.1 } in
    let e : Er.Denot = record { marker = record {}; table_id = z; views = r.2 } in
    let Places : Type 0 = (w ≡ w) × (p ≡ p) × (z ≡ z) in let Last : Type 0 = Closes good r.0 r.1 r.2 in
    use0 𝓛 (‵ ((PlotData u64).own_val (w, tt) (strip_of w ∷ []))) (plot_made u64 𝓛 w) $ fjoin ! $ move ! (1 ∷ []) $
    use0 𝓛 (‵ ((PlotData R).own_val (p, tt) (strip_of p ∷ []))) (plot_made R 𝓛 p) $ fjoin ! $ move ! (2 ∷ []) $
    use0 𝓛 (‵ ((EndedData W).own_val (tt, tt) (token_val ∷ []))) (ended_made W 𝓛) $ fjoin ! $ nothing ! $
    move ! (1 ∷ 0 ∷ []) $ fjoin ! $ move ! (1 ∷ 0 ∷ []) $ fjoin ! $ move ! (1 ∷ 0 ∷ []) $ fjoin ! $
    feq_i ! (List Val) (u ∷ []) (u ∷ []) refl $ fjoin ! $
    fpack ! (Valss (Wp ∷ Vp ∷ Er ∷ [])) (λ ws. fsep (base.Fml.feq (List Val) (u ∷ [])
    (vstruct (of_list (ws.0 ++ (ws.1.0 ++ (ws.1.1.0 ++ [])))) ∷ []))
    (owns (Wp ∷ Vp ∷ Er ∷ []) (word, (value, (e, tt))) ws))
    (strip_of w ∷ [], (strip_of p ∷ [], (token_val ∷ [], tt))) $
    sets ! (of_opd ! (get_in ! (fld ! refl (stop !)) (sub ! 0 refl (whole !)))) refl (Ptr-Good w at.0) $
    sets ! (of_opd ! (get_in ! (fld ! refl (stop !)) (sub ! 1 refl (whole !)))) refl (Ptr-Good p at.1) $
    sets ! (agg ! (no_more !)) refl (tt, tt) $
    sets ! (agg ! (and_then ! (get ! refl) (no_more !))) refl (strip_good w at.0) $
    sets ! (agg ! (and_then ! (get ! refl) (no_more !))) refl (strip_good p at.1) $
    sets ! (agg ! (and_then ! (get ! refl) (no_more !))) refl (tt, (tt, tt)) $
    sets ! (agg ! (and_then ! (get ! refl) (and_then ! (get ! refl) (and_then ! (get ! refl) (no_more !))))) refl
    (gathered_good w p at.0 at.1) $
    use0 𝓛 (raw (fact 𝓤 Last)) (fact_i 𝓤 Last (emp 𝓤) so.0) $
    use0 𝓛 (raw (fact 𝓤 Places)) (fact_i 𝓤 Places (emp 𝓤) (refl, refl, refl)) $ join ! $
    nothing ! $ nothing ! $ fjoin ! $ returns ! (look_at ! 0 refl) $ free_all ! refl $ keep ! (3 ∷ 0 ∷ 2 ∷ 1 ∷ []) $
    by ! (leaves 𝓛 En hs c y u (word, value, e) (tt, tt) (tt, tt)))))))
