-- `load` is a step on the word by which the seat may learn.
use Rattle.atomic_table.proofs.Names.{◌≡◌, ℕ, ◌^◌, List, [], ◌∷◌, sym, refl, lit<, w64, a_type, dcons, dnil, named}
use Rattle.atomic_table.proofs.Names.{Val, vint, vptr, inst_fn, SProp, emp, Lft, Fml, ftrue, fsep, flft, ‵, raw, ◌⊛◌}
use Rattle.atomic_table.proofs.Names.{given, mean, at_ret, ◌$◌, ◌∵◌, !, qed, by, move, keep, drop, split, split3, join}
use Rattle.atomic_table.proofs.Names.{fsplit, fsplit3, fjoin, fjoin3, fpick, learn, use0, use3, rewrite, feq_i, flt_i}
use Rattle.atomic_table.proofs.Names.{lit, of_opd, no_more, and_then, exec, Calls-last, returns, enter, alloc_all}
use Rattle.atomic_table.proofs.Names.{pass_all, free_all, look_at, get, sets, lands_last, env, agg, tables, yes}
use Rattle.atomic_table.proofs.Names.{RattleType, owns, types_at, plain, Ptr, block_ptr, nothing, param, bounded}
use Rattle.atomic_table.proofs.Names.{Stays, stay_dropped, walk_of, Goes-dropped, fact, fact_i, block_of, count_of}
use Rattle.atomic_table.proofs.Names.{via, RefOf, mut_vals, mut_Tells, shr_vals, shr_Tells, opens, closes, stay_ref}
use Rattle.atomic_table.proofs.Names.{Goes-ref, obor_close}
use Rattle.atomic_table.proofs.Walks.{proved, leaves}
use Rattle.atomic_table.proofs.Calls.{fm, seq_cst, found, finds, loads as raw_load}
use denote.Param.Laws.{param_laws}
use Rattle.core.proofs.atomic.Steps.{tail}
use Rattle.lent_table.specs.Table.{Me, step, Learns}
use Rattle.lent_table.specs.Lending.{TableId, age, seat_owns}
use Rattle.lent_table.specs.contracts.shared.Shared as table
use Rattle.lent_table.specs.contracts.shared.Seat as seat
use Rattle.lent_table.proofs.Fields.{reaches_word}
use Rattle.lent_table.proofs.Stepping.{after_beside, loads}
use Rattle.lent_table.specs.contracts.shared.Shared.load.{ended, clauses}
use Rattle.lent_table.specs.contracts.shared.Shared.load.Key.{name as #self}
use Rattle.lent_table.proofs.shared.Shared.load.Statement.{statement}
use Rattle.lent_table.proofs.shared.Shared.load.Code as code

pub load_spec : {M : Type 1} → statement M
load_spec 𝓤 𝓛 𝓜 𝓡 wired T U Q P Mv L _ _ _ _ g d g' d' _ _ =
    let H = 𝓛.H in let 𝓣 = tables 𝓤 H 𝓜 𝓡 𝓡.env in
    let R : RattleType = param 0 T in let W : RattleType = param 1 U in let X : RattleType = param 2 Q in
    let Y : RattleType = param 3 P in
    let En = ended T U Q P Mv g d g' d' in let c = clauses T U Q P Mv g d g' d' 𝓛 𝓜.mem 𝓡.returns in
    let inst = bounded (a_type ∷ a_type ∷ a_type ∷ a_type ∷ a_type ∷ []) (T, (U, (Q, (P, (Mv, tt)))))
    (dcons d (dcons d' dnil)) in let fn = inst_fn inst code.function in
    let Row : RattleType = table.the_row R W X Y g in let Sr : RattleType = seat.the_row R W in
    let self = RefOf (0 ∷ []) tt (plain (λ _. Row)) (λ _. tt) in let sitter = plain (λ _. Sr) in
    let hs : Stays En.signature.params En.kept = (stay_dropped self yes, (stay_ref (1 ∷ []) tt sitter, tt)) in
    proved 𝓛 En hs c 𝓜 𝓡 (
      Goes-dropped 𝓛 7 self yes (λ κs x f.
          refl),
      (Goes-ref 𝓛 7 1 tt sitter, tt),
    ) (#self inst) fn
    (code.unfolded 𝓤 H 𝓜 𝓡 wired (T, (U, (Q, (P, (Mv, tt))))) d d')
    (λ κs. (shr_vals, (mut_vals, tt))) (λ κs. (shr_Tells (named 0) κs.0 Row, (mut_Tells (named 1) κs.1.0 Sr, tt)))
    (λ κs qs bounds a gh are.
    let κ : Lft = κs.0 in let b : ℕ = a.0.ref_ptr.0 in let o : ℕ = a.0.ref_ptr.1 in let t : Row.Denot = a.0.now in
    let z : TableId = t.table_id in let w : Ptr = t.word in
    let b' : ℕ = a.1.0.ref_ptr.0 in let o' : ℕ = a.1.0.ref_ptr.1 in let s : Sr.Denot = a.1.0.now in
    let me : Me T.Denot U.Denot = s.me in
    let then : ℕ → Me T.Denot U.Denot → Type 0 = g'.then (step 0 0) me in
    let Asked : Type 0 = (s.table_id ≡ z) × Learns (g.holds t.key) s.id me then in
    let y : (walk_of 𝓛 En hs c).Ghost = ((κs, qs, bounds, a, (vptr b o ∷ [], (vptr b' o' ∷ [], tt))), gh) in
    let Post : Val → SProp 𝓤 = (walk_of 𝓛 En hs c).post y in
    let more : Fml = fsep (flft κs.1.1.0 qs.1.1.0) (fsep (flft κs.1.1.1.0 qs.1.1.1.0)
    (fsep (flft κs.1.1.1.1.0 qs.1.1.1.1.0) (fsep (flft κs.1.1.1.1.1.0 qs.1.1.1.1.1.0)
    (fsep (flft κs.1.1.1.1.1.1.0 qs.1.1.1.1.1.1.0) ftrue)))) in
    qed 𝓛 (((‵ (flft κ qs.0) ⊛ ‵ (flft κs.1.0 qs.1.0) ⊛ ‵ more) ⊛ ‵ (owns (types_at En.signature.params κs) a y.0.4))
    ∷ raw (fact 𝓤 _) ∷ raw (fact 𝓤 _) ∷ raw (fact 𝓤 _) ∷ raw (fact 𝓤 _) ∷ raw (fact 𝓤 _) ∷ given Asked (‵ ftrue)
    ∷ []) ∵
    keep ! (6 ∷ 0 ∷ []) $ learn ! (λ asked. drop ! $ split ! $ split3 ! $ move ! (3 ∷ []) $ fsplit3 ! $ fsplit ! $
    move ! (2 ∷ []) $ fsplit3 ! $ keep ! (4 ∷ 6 ∷ 1 ∷ 2 ∷ 7 ∷ 8 ∷ []) $
    enter ! 𝓣.C 𝓣.Λ fn (vptr b o ∷ vptr b' o' ∷ []) Post $
    alloc_all ! (λ l. pass_all ! refl ((tt, tt), ((tt, tt), tt)) $ let Ev = env fn.locals l in
    reaches_word R W X Y g ! t b o (λ _. refl) (λ _. refl) (tt, tt) (λ _. refl) (λ r.
    let out : ℕ → Fml = λ n. fsep (flft (age z) r) (after_beside 𝓛 R W.coded (g.holds t.key)
    w t.value z r (param_laws 0 T L).shr_laws s.id me then ftrue n) in
    move ! (4 ∷ 5 ∷ 6 ∷ []) $ opens ! tt Sr b' o' (λ us. move ! (1 ∷ []) $ fsplit ! $ move ! (1 ∷ []) $
    -- [the seat; its fields and borrow; the borrow that the age's token came from; that; the table's fields; the
    -- invariant]
    let Mine : TableId → Me T.Denot U.Denot → Fml = λ u v. seat_owns R W.coded.code u s.id v in
    rewrite ! 0 (λ (u : TableId). ‵ (Mine u me)) asked.0 refl $ nothing ! $ fjoin ! $ move ! (9 ∷ 7 ∷ 0 ∷ []) $
    use3 𝓛 (raw (𝓣.C _ (vptr (block_of w) (count_of w) ∷ seq_cst ∷ []) (λ u. mean 𝓛 (found out u))))
    (via 𝓤 _ (loads 𝓛 R W.coded (g.holds t.key) w t.value z r (param_laws 0 T L).shr_laws s.id me then asked.1)
    (raw_load 𝓛 𝓜 𝓡 (code.calls-core::raw_atomic::load 𝓡.env wired) (block_ptr (block_of w) (count_of w)) out)) $
    sets ! (agg ! (and_then ! (lit ! tt) (no_more !))) refl (tt, (record { fits = lit< tt }, tt)) $
    Calls-last ! (fm 𝓛 𝓜 𝓡) (found out) (and_then ! (get ! refl) (and_then ! (get ! refl) (no_more !))) (λ u.
    finds ! out (λ n fits.
    lands_last ! refl (tt, record { fits = fits }) $ exec ! 𝓣.C 𝓣.Λ Ev (tail fn.body) (at_ret Ev Post) $
    sets ! (of_opd ! (get ! refl)) refl (tt, record { fits = fits }) $
    fsplit ! $ move ! (7 ∷ 0 ∷ []) $ obor_close ! tt $ drop ! $ move ! (1 ∷ []) $ fsplit ! $ drop ! $
    fpick ! (λ v. fsplit ! $ fpick ! (λ so. drop ! $
    let new : Sr.Denot = record { marker = s.marker; table_id = s.table_id; id = s.id; me = (v, me.1) } in
    let Told : Type 0 = (s.table_id ≡ s.table_id) × (s.id ≡ s.id) × then n (v, me.1) in
    rewrite ! 0 (λ (u : TableId). ‵ (Mine u (v, me.1))) (sym asked.0) refl $ move ! (2 ∷ 0 ∷ []) $ fjoin ! $
    move ! (2 ∷ 0 ∷ 3 ∷ 4 ∷ 5 ∷ []) $ closes ! tt Sr new us b' o' $
    feq_i ! (List Val) (vptr b' o' ∷ []) (vptr b' o' ∷ []) refl $ fjoin3 ! $
    nothing ! $ move ! (1 ∷ 0 ∷ []) $ fjoin ! $ nothing ! $ fjoin ! $ move ! (1 ∷ 4 ∷ []) $ join ! $
    move ! (2 ∷ 0 ∷ []) $ join ! $
    use0 𝓛 (raw (fact 𝓤 Told)) (fact_i 𝓤 Told (emp 𝓤) (refl, refl, so)) $ flt_i ! n (2 ^ 64) fits $
    feq_i ! (List Val) (vint w64 n ∷ []) (vint w64 n ∷ []) refl $ fjoin ! $
    returns ! (look_at ! 0 refl) $ free_all ! refl $ keep ! (2 ∷ 3 ∷ 0 ∷ 1 ∷ []) $
    by ! (leaves 𝓛 En hs c y (vint w64 n) n (tt, (new, tt)) (tt, (tt, tt))))))))))))
