-- `enter` is a step on the word by which the table gives out a new seat.
use Rattle.atomic_table.proofs.Names.{◌≡◌, ℕ, ◌^◌, List, [], ◌∷◌, ◌++◌, refl, lit<, w64, a_type, dcons, dnil, named}
use Rattle.atomic_table.proofs.Names.{Val, vint, vptr, vstruct, vcons, vnil, inst_fn, SProp, emp, Lft, Fml, ftrue}
use Rattle.atomic_table.proofs.Names.{fsep, flft, ‵, raw, ◌⊛◌, given, mean, at_ret, ◌$◌, ◌∵◌, !, qed, by, move, keep}
use Rattle.atomic_table.proofs.Names.{drop, split, join, fsplit, fjoin, fpick, fpack, learn, use0, use3, feq_i, flt_i}
use Rattle.atomic_table.proofs.Names.{lit, of_opd, no_more, and_then, exec, Calls-last, returns, enter, alloc_all}
use Rattle.atomic_table.proofs.Names.{pass_all, free_all, look_at, get, sets, lands_last, env, agg, tables, yes}
use Rattle.atomic_table.proofs.Names.{RattleType, owns, Valss, types_at, plain, Ptr, block_ptr, nothing, param}
use Rattle.atomic_table.proofs.Names.{bounded, Stays, stay_dropped, walk_of, Goes-dropped, fact, fact_i, block_of}
use Rattle.atomic_table.proofs.Names.{count_of, via, RefOf, u64, shr_vals, shr_Tells, obor_close, of_list}
use Rattle.atomic_table.proofs.Walks.{proved, leaves}
use Rattle.atomic_table.proofs.Calls.{fm, seq_cst, found, finds, loads as raw_load}
use Rattle.atomic_table.proofs.Fields.{token_val}
use Rattle.core.proofs.atomic.Steps.{tail}
use Rattle.lent_table.specs.Table.{Me, none, step, Enters}
use Rattle.lent_table.specs.Lending.{TableId, age}
use Rattle.lent_table.specs.contracts.shared.Shared as table
use Rattle.lent_table.specs.contracts.shared.Seat as seat
use Rattle.lent_table.proofs.Fields.{SeatData, seat_made, reaches_word}
use Rattle.lent_table.proofs.Stepping.{after_enter, enters}
use Rattle.lent_table.specs.contracts.shared.Shared.enter.{ended, clauses}
use Rattle.lent_table.specs.contracts.shared.Shared.enter.Key.{name as #self}
use Rattle.lent_table.proofs.shared.Shared.enter.Statement.{statement}
use Rattle.lent_table.proofs.shared.Shared.enter.Code as code

pub enter_spec : {M : Type 1} → statement M
enter_spec 𝓤 𝓛 𝓜 𝓡 wired T U Q P Mv _ _ _ _ _ g d g' d' _ _ =
    let H = 𝓛.H in let 𝓣 = tables 𝓤 H 𝓜 𝓡 𝓡.env in
    let R : RattleType = param 0 T in let W : RattleType = param 1 U in let X : RattleType = param 2 Q in
    let Y : RattleType = param 3 P in
    let En = ended T U Q P Mv g d g' d' in let c = clauses T U Q P Mv g d g' d' 𝓛 𝓜.mem 𝓡.returns in
    let inst = bounded (a_type ∷ a_type ∷ a_type ∷ a_type ∷ a_type ∷ []) (T, (U, (Q, (P, (Mv, tt)))))
    (dcons d (dcons d' dnil)) in let fn = inst_fn inst code.function in
    let Row : RattleType = table.the_row R W X Y g in let Sr : RattleType = seat.the_row R W in
    let self = RefOf (0 ∷ []) tt (plain (λ _. Row)) (λ _. tt) in
    let hs : Stays En.signature.params En.kept = (stay_dropped self yes, tt) in
    proved 𝓛 En hs c 𝓜 𝓡 (
      Goes-dropped 𝓛 6 self yes (λ κs x f.
          refl),
      tt,
    ) (#self inst) fn (code.unfolded 𝓤 H 𝓜 𝓡 wired (T, (U, (Q, (P, (Mv, tt))))) d d')
    (λ κs. (shr_vals, tt)) (λ κs. (shr_Tells (named 0) κs.0 Row, tt)) (λ κs qs bounds a gh are.
    let κ : Lft = κs.0 in let b : ℕ = a.0.ref_ptr.0 in let o : ℕ = a.0.ref_ptr.1 in let t : Row.Denot = a.0.now in
    let z : TableId = t.table_id in let w : Ptr = t.word in
    let then : ℕ → Me T.Denot U.Denot → Type 0 = g'.then (step 0 0) (g.first t.key, none) in
    let Asked : Type 0 = Enters (g.holds t.key) then in
    let y : (walk_of 𝓛 En hs c).Ghost = ((κs, qs, bounds, a, (vptr b o ∷ [], tt)), gh) in
    let Post : Val → SProp 𝓤 = (walk_of 𝓛 En hs c).post y in
    let more : Fml = fsep (flft κs.1.0 qs.1.0) (fsep (flft κs.1.1.0 qs.1.1.0)
    (fsep (flft κs.1.1.1.0 qs.1.1.1.0) (fsep (flft κs.1.1.1.1.0 qs.1.1.1.1.0)
    (fsep (flft κs.1.1.1.1.1.0 qs.1.1.1.1.1.0) ftrue)))) in
    qed 𝓛 (((‵ (flft κ qs.0) ⊛ ‵ more) ⊛ ‵ (owns (types_at En.signature.params κs) a y.0.4))
    ∷ raw (fact 𝓤 _) ∷ raw (fact 𝓤 _) ∷ raw (fact 𝓤 _) ∷ raw (fact 𝓤 _) ∷ raw (fact 𝓤 _) ∷ given Asked (‵ ftrue)
    ∷ []) ∵
    keep ! (6 ∷ 0 ∷ []) $ learn ! (λ asked. drop ! $ split ! $ split ! $ move ! (2 ∷ []) $ fsplit ! $ fsplit ! $
    keep ! (1 ∷ 3 ∷ 4 ∷ []) $
    enter ! 𝓣.C 𝓣.Λ fn (vptr b o ∷ []) Post $ alloc_all ! (λ l. pass_all ! refl ((tt, tt), tt) $
    let Ev = env fn.locals l in
    reaches_word R W X Y g ! t b o (λ _. refl) (λ _. refl) (tt, tt) (λ _. refl) (λ r.
    let out : ℕ → Fml = λ n. fsep (flft (age z) r) (after_enter 𝓛 R W.coded (g.holds t.key) w t.value z r then n) in
    -- [the borrow of the age's token; that; the table's fields; the invariant; the other tokens]
    nothing ! $ move ! (4 ∷ 2 ∷ 0 ∷ []) $
    use3 𝓛 (raw (𝓣.C _ (vptr (block_of w) (count_of w) ∷ seq_cst ∷ []) (λ u. mean 𝓛 (found out u))))
    (via 𝓤 _ (enters 𝓛 R W.coded (g.holds t.key) w t.value z r then asked)
    (raw_load 𝓛 𝓜 𝓡 (code.calls-core::raw_atomic::load 𝓡.env wired) (block_ptr (block_of w) (count_of w)) out)) $
    sets ! (agg ! (and_then ! (lit ! tt) (no_more !))) refl (tt, (record { fits = lit< tt }, tt)) $
    Calls-last ! (fm 𝓛 𝓜 𝓡) (found out) (and_then ! (get ! refl) (and_then ! (get ! refl) (no_more !))) (λ u.
    finds ! out (λ n fits.
    lands_last ! refl (tt, record { fits = fits }) $ exec ! 𝓣.C 𝓣.Λ Ev (tail fn.body) (at_ret Ev Post) $
    sets ! (of_opd ! (get ! refl)) refl (tt, record { fits = fits }) $
    sets ! (agg ! (no_more !)) refl (tt, tt) $ sets ! (agg ! (and_then ! (get ! refl) (no_more !))) refl (
      tt,
      (tt, tt),
    ) $
    sets ! (agg ! (and_then ! (get ! refl) (and_then ! (get ! refl) (no_more !)))) refl (
      tt,
      (
        record {
          fits =
              fits;
        },
        ((tt, tt), tt),
      ),
    ) $
    fsplit ! $ move ! (2 ∷ 0 ∷ []) $ obor_close ! tt $ drop ! $ move ! (1 ∷ []) $ fpick ! (λ x. fsplit ! $
    fpick ! (λ so. drop ! $
    -- [the new view; the token of κ; the table's fields; the other tokens]
    let come : Sr.Denot = record { marker = record {}; table_id = z; id = x.0; me = (x.1, none) } in
    let v : Val = vstruct (vcons (vint w64 n) (vcons token_val vnil)) in
    let Told : Type 0 = (z ≡ z) × (come.me.1 ≡ none) × then n come.me in
    nothing ! $ fjoin ! $ use0 𝓛 (‵ ((SeatData R W).own_val (tt, tt) (token_val ∷ []))) (seat_made R W 𝓛) $
    fjoin ! $ nothing ! $ move ! (1 ∷ 0 ∷ []) $ fjoin ! $
    flt_i ! n (2 ^ 64) fits $ feq_i ! (List Val) (vint w64 n ∷ []) (vint w64 n ∷ []) refl $ fjoin ! $ fjoin ! $
    feq_i ! (List Val) (v ∷ []) (v ∷ []) refl $ fjoin ! $
    fpack ! (Valss (u64 ∷ Sr ∷ [])) (λ ws. fsep (base.Fml.feq (List Val) (v ∷ [])
    (vstruct (of_list (ws.0 ++ (ws.1.0 ++ []))) ∷ [])) (owns (u64 ∷ Sr ∷ []) (n, (come, tt)) ws))
    (vint w64 n ∷ [], (token_val ∷ [], tt)) $
    nothing ! $ nothing ! $ fjoin ! $ move ! (2 ∷ 4 ∷ []) $ join ! $
    use0 𝓛 (raw (fact 𝓤 Told)) (fact_i 𝓤 Told (emp 𝓤) (refl, refl, so)) $
    returns ! (look_at ! 0 refl) $ free_all ! refl $ keep ! (1 ∷ 2 ∷ 3 ∷ 0 ∷ []) $
    by ! (leaves 𝓛 En hs c y v (n, come) (tt, tt) (tt, tt))))))))))
