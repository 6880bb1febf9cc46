-- `fetch_sub` is a step on the word by which the seat may give the value back, or take it, whatever the word is.
use Rattle.atomic_table.proofs.Names.{◌≡◌, ℕ, ◌+◌, ◌-◌, ◌%◌, ◌^◌, ◌<◌, List, [], ◌∷◌, sym, refl, lit<, w64, a_type}
use Rattle.atomic_table.proofs.Names.{dcons, dnil, named, Val}
use Rattle.atomic_table.proofs.Names.{vint, vptr, inst_fn, SProp, emp, Lft, Share, Fml, ftrue, fsep, flft, ‵, raw, ◌⊛◌}
use Rattle.atomic_table.proofs.Names.{given, later, mean, at_ret, ◌$◌, ◌∵◌, !, qed, by, move, keep, drop, split}
use Rattle.atomic_table.proofs.Names.{split3, join, fsplit, fsplit3, fjoin, fjoin3, fpick, learn, await, use0, use1}
use Rattle.atomic_table.proofs.Names.{use3, rewrite, feq_i, flt_i, lit, of_opd, no_more, and_then, exec, Calls-last}
use Rattle.atomic_table.proofs.Names.{returns, enter, alloc_all, pass_all, free_all, look_at, get, sets, lands_last}
use Rattle.atomic_table.proofs.Names.{env, agg, tables, yes, RattleType, owns, types_at, plain, Ptr, block_ptr, nothing}
use Rattle.atomic_table.proofs.Names.{heard, param, bounded, Stays, stay_dropped, walk_of, Goes-dropped, fact, fact_i}
use Rattle.atomic_table.proofs.Names.{block_of, count_of, via, RefOf, u64, mut_vals, mut_Tells, shr_vals, shr_Tells}
use Rattle.atomic_table.proofs.Names.{uint_vals, uint_Tells, opens, closes, stay_ref, Goes-ref, obor_close, ◌⊑◌}
use Rattle.atomic_table.proofs.Walks.{proved, leaves}
use Rattle.atomic_table.proofs.Calls.{fm, seq_cst, found, finds, subs as raw_sub}
use Rattle.atomic_table.specs.Seated.{seen}
use base.Fml.{Incl-refl}
use base.Share.{three_quarters}
use denote.Param.Laws.{param_laws}
use Rattle.core.proofs.atomic.Steps.{tail}
use Rattle.lent_table.specs.Table.{Me, step, Allows}
use Rattle.lent_table.specs.Lending.{TableId, age, hold_owns}
use Rattle.lent_table.specs.inner.Lending.{hold_steps}
use Rattle.lent_table.specs.contracts.shared.Shared as table
use Rattle.lent_table.specs.contracts.shared.Seat as seat
use Rattle.lent_table.proofs.Fields.{reaches_word}
use Rattle.lent_table.proofs.Rounds.{readies, settles}
use Rattle.lent_table.proofs.Stepping.{after_exchange, exchanges}
use Rattle.lent_table.specs.contracts.shared.Shared.fetch_sub.{ended, clauses}
use Rattle.lent_table.specs.contracts.shared.Shared.fetch_sub.Key.{name as #self}
use Rattle.lent_table.proofs.shared.Shared.fetch_sub.Statement.{statement}
use Rattle.lent_table.proofs.shared.Shared.fetch_sub.Code as code

pub fetch_sub_spec : {M : Type 1} → statement M
fetch_sub_spec 𝓤 𝓛 𝓜 𝓡 wired T U Q P Mv L _ _ _ _ g d g' d' _ _ =
    let H = 𝓛.H in let 𝓣 = tables 𝓤 H 𝓜 𝓡 𝓡.env in
    let R : RattleType = param 0 T in let W : RattleType = param 1 U in let X : RattleType = param 2 Q in
    let Y : RattleType = param 3 P in
    let En = ended T U Q P Mv g d g' d' in let c = clauses T U Q P Mv g d g' d' 𝓛 𝓜.mem 𝓡.returns in
    let laws = param_laws 0 T L in
    let inst = bounded (a_type ∷ a_type ∷ a_type ∷ a_type ∷ a_type ∷ []) (T, (U, (Q, (P, (Mv, tt)))))
    (dcons d (dcons d' dnil)) in let fn = inst_fn inst code.function in
    let Row : RattleType = table.the_row R W X Y g in let Sr : RattleType = seat.the_row R W in
    let self = RefOf (0 ∷ []) tt (plain (λ _. Row)) (λ _. tt) in let sitter = plain (λ _. Sr) in
    let number = plain (λ _. u64) in
    let hs : Stays En.signature.params En.kept = (
      stay_dropped self yes,
      (stay_ref (1 ∷ []) tt sitter, (stay_dropped number yes, tt)),
    ) in
    let gone = Goes-dropped 𝓛 7 number yes (λ κs x f. refl) in
    proved 𝓛 En hs c 𝓜 𝓡 (
      Goes-dropped 𝓛 7 self yes (λ κs x f.
          refl),
      (Goes-ref 𝓛 7 1 tt sitter, (gone, tt)),
    ) (#self inst) fn
    (code.unfolded 𝓤 H 𝓜 𝓡 wired (T, (U, (Q, (P, (Mv, tt))))) d d')
    (λ κs. (shr_vals, (mut_vals, (uint_vals w64, tt)))) (λ κs.
    (shr_Tells (named 0) κs.0 Row, (mut_Tells (named 1) κs.1.0 Sr, (uint_Tells w64, tt))))
    (λ κs qs bounds a gh are.
    let κ : Lft = κs.0 in let b : ℕ = a.0.ref_ptr.0 in let o : ℕ = a.0.ref_ptr.1 in let t : Row.Denot = a.0.now in
    let z : TableId = t.table_id in let w : Ptr = t.word in
    let b' : ℕ = a.1.0.ref_ptr.0 in let o' : ℕ = a.1.0.ref_ptr.1 in let s : Sr.Denot = a.1.0.now in
    let me : Me T.Denot U.Denot = s.me in
    let k : ℕ = a.1.1.0 in let fits_k : k < 2 ^ 64 = are.1.1.0.1 in
    let τ : Lft = κs.1.1.0 in let e : Share = qs.1.1.0 in
    let f : ℕ → ℕ = λ n. (n + (2 ^ 64 - k)) % 2 ^ 64 in
    let then : ℕ → Me T.Denot U.Denot → Type 0 = g'.then (step 0 k) me in
    let Asked : Type 0 = (s.table_id ≡ z) × Allows (g.holds t.key) s.id me f then in
    let y : (walk_of 𝓛 En hs c).Ghost = (
      (
        κs,
        qs,
        bounds,
        a,
        (vptr b o ∷ [], (vptr b' o' ∷ [], (vint w64 k ∷ [], tt))),
      ),
      gh,
    ) in
    let Post : Val → SProp 𝓤 = (walk_of 𝓛 En hs c).post y in
    let more : Fml = fsep (flft κs.1.1.1.0 qs.1.1.1.0)
    (fsep (flft κs.1.1.1.1.0 qs.1.1.1.1.0) (fsep (flft κs.1.1.1.1.1.0 qs.1.1.1.1.1.0)
    (fsep (flft κs.1.1.1.1.1.1.0 qs.1.1.1.1.1.1.0) ftrue))) in
    qed 𝓛 (((‵ (flft κ qs.0) ⊛ ‵ (flft κs.1.0 qs.1.0) ⊛ ‵ (flft τ e) ⊛ ‵ more)
    ⊛ ‵ (owns (types_at En.signature.params κs) a y.0.4))
    ∷ raw (fact 𝓤 (τ ⊑ T.lives)) ∷ raw (fact 𝓤 _) ∷ raw (fact 𝓤 _) ∷ raw (fact 𝓤 _) ∷ raw (fact 𝓤 _)
    ∷ given Asked (‵ ftrue) ∷ []) ∵
    keep ! (6 ∷ 1 ∷ 0 ∷ []) $ learn ! (λ asked. drop ! $ heard ! (τ ⊑ T.lives) (λ le. split ! $ split3 ! $
    move ! (2 ∷ []) $ split ! $ move ! (4 ∷ []) $
    fsplit3 ! $ fsplit ! $ move ! (2 ∷ []) $ fsplit3 ! $ keep ! (4 ∷ 8 ∷ 1 ∷ 2 ∷ 9 ∷ 6 ∷ 7 ∷ []) $
    enter ! 𝓣.C 𝓣.Λ fn (vptr b o ∷ vptr b' o' ∷ vint w64 k ∷ []) Post $
    alloc_all ! (λ l. pass_all ! refl ((tt, tt), ((tt, tt), ((tt, record { fits = fits_k }), tt))) $
    let Ev = env fn.locals l in
    reaches_word R W X Y g ! t b o (λ _. refl) (λ _. refl) (tt, tt) (λ _. refl) (λ r.
    let out : ℕ → Fml = λ n. fsep (flft (age z) r) (after_exchange 𝓛 R W.coded (g.holds t.key)
    w t.value z r laws.shr_laws s.id me f then n) in
    move ! (4 ∷ 5 ∷ 6 ∷ []) $ opens ! tt Sr b' o' (λ us. move ! (1 ∷ []) $ fsplit ! $ move ! (1 ∷ []) $ fsplit ! $
    -- [what the seat has; its view; its fields and borrow; the borrow of the age's token; that; the table's fields;
    -- the invariant; the token of T]
    let View : TableId → U.Denot → Fml = λ u v. seen W.coded.code u.views_name s.id three_quarters v in
    rewrite ! 0 (λ (u : TableId). ‵ (hold_owns R u me.1)) asked.0 refl $
    rewrite ! 1 (λ (u : TableId). ‵ (View u me.0)) asked.0 refl $ move ! (0 ∷ 8 ∷ 11 ∷ []) $
    use3 𝓛 (later (‵ (hold_steps R z me.1) ⊛ ‵ (flft (age z) r) ⊛ ‵ (flft τ e)))
    (readies 𝓛 R laws.shr_laws z R.lives (laws.shares 𝓛) (age z) r τ e (Incl-refl (age z)) le me.1) $ await ! tt $
    split3 ! $
    move ! (0 ∷ 3 ∷ []) $ fjoin ! $ move ! (10 ∷ 1 ∷ 0 ∷ []) $
    use3 𝓛 (raw (𝓣.C _ (vptr (block_of w) (count_of w) ∷ vint w64 k ∷ seq_cst ∷ []) (λ u.
    mean 𝓛 (found out u))))
    (via 𝓤 _ (exchanges 𝓛 R W.coded (g.holds t.key) w t.value z r laws.shr_laws s.id me f then asked.1)
    (raw_sub 𝓛 𝓜 𝓡 (code.calls-core::raw_atomic::fetch_sub 𝓡.env wired) (block_ptr (block_of w) (count_of w)) k fits_k
    out)) $
    sets ! (agg ! (and_then ! (lit ! tt) (no_more !))) refl (tt, (record { fits = lit< tt }, tt)) $
    Calls-last ! (fm 𝓛 𝓜 𝓡) (found out) (and_then ! (get ! refl)
    (and_then ! (get ! refl) (and_then ! (get ! refl) (no_more !)))) (λ u. finds ! out (λ n fits.
    lands_last ! refl (tt, record { fits = fits }) $ exec ! 𝓣.C 𝓣.Λ Ev (tail fn.body) (at_ret Ev Post) $
    sets ! (of_opd ! (get ! refl)) refl (tt, record { fits = fits }) $
    fsplit ! $ move ! (8 ∷ 0 ∷ []) $ obor_close ! tt $ drop ! $ move ! (1 ∷ []) $ fpick ! (λ v. fsplit ! $
    fpick ! (λ so. drop ! $ fsplit ! $
    use1 𝓛 (later (‵ (hold_owns R z v.1))) (settles 𝓛 R laws.shr_laws z v.1) $ await ! tt $
    let after : Sr.Denot = record { marker = s.marker; table_id = s.table_id; id = s.id; me = v } in
    let Told : Type 0 = (s.table_id ≡ s.table_id) × (s.id ≡ s.id) × then n v in
    rewrite ! 0 (λ (u : TableId). ‵ (hold_owns R u v.1)) (sym asked.0) refl $
    rewrite ! 1 (λ (u : TableId). ‵ (View u v.0)) (sym asked.0) refl $ fjoin ! $
    move ! (3 ∷ 0 ∷ []) $ fjoin ! $ move ! (3 ∷ 0 ∷ 4 ∷ 5 ∷ 6 ∷ []) $ closes ! tt Sr after us b' o' $
    feq_i ! (List Val) (vptr b' o' ∷ []) (vptr b' o' ∷ []) refl $ fjoin3 ! $
    nothing ! $ nothing ! $ fjoin ! $ move ! (1 ∷ 0 ∷ []) $ fjoin ! $ nothing ! $ fjoin ! $
    move ! (3 ∷ 5 ∷ []) $ join ! $ move ! (2 ∷ 0 ∷ []) $ join ! $ move ! (2 ∷ 0 ∷ []) $ join ! $
    use0 𝓛 (raw (fact 𝓤 Told)) (fact_i 𝓤 Told (emp 𝓤) (refl, refl, so)) $ flt_i ! n (2 ^ 64) fits $
    feq_i ! (List Val) (vint w64 n ∷ []) (vint w64 n ∷ []) refl $ fjoin ! $
    returns ! (look_at ! 0 refl) $ free_all ! refl $ keep ! (2 ∷ 3 ∷ 0 ∷ 1 ∷ []) $
    by ! (leaves 𝓛 En hs c y (vint w64 n) n (tt, (after, (tt, tt))) (tt, (tt, (tt, tt))))))))))))))
