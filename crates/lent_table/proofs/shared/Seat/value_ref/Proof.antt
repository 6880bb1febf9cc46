-- `value_ref` shows the value for as long as the seat and the table are borrowed.
use Rattle.atomic_table.proofs.Names.{◌≡◌, ℕ, List, [], ◌∷◌, refl, a_type, dcons, dnil, named, Val, vptr, inst_fn}
use Rattle.atomic_table.proofs.Names.{SProp, emp, Lft, Share, Fml, ftrue, fsep, flft, ‵, raw, ◌⊛◌, given, later}
use Rattle.atomic_table.proofs.Names.{at_ret, ◌$◌, ◌∵◌, !, qed, by, move, keep, drop, split, split3, join, group}
use Rattle.atomic_table.proofs.Names.{fsplit, fsplit3, fjoin, use0, use1, await, rewrite, learn, feq_i, of_opd, get}
use Rattle.atomic_table.proofs.Names.{stop, fld, addr, first, blocks, exec, returns, enter, alloc_all, pass_all}
use Rattle.atomic_table.proofs.Names.{free_all, look_at, through, sets, sets_last, env, sub, whole, look_in, yes}
use Rattle.atomic_table.proofs.Names.{RattleType, owns, types_at, plain, block_ptr, nothing, param, bounded, Stays}
use Rattle.atomic_table.proofs.Names.{stay_dropped, walk_of, Goes-dropped, fact, fact_i, RefOf, shr_vals, shr_Tells}
use Rattle.atomic_table.proofs.Names.{unhide, hidden_shr, lent_out, Tuple}
use Rattle.atomic_table.proofs.Walks.{leaves}
use Rattle.std.specs.Prelude.{Some, IsSome}
use base.Fml.{fhide, ftok}
use base.Mask.{every}
use contract.BorrowLft.{◌⊑◌}
use denote.Steps.{heard}
use denote.Param.Laws.{param_laws}
use types.Run.{hop}
use Rattle.core.proofs.atomic.Steps.{tail}
use Rattle.core.specs.contracts.marker.PhantomData as phantom
use Rattle.lent_table.specs.Table.{value_of}
use Rattle.lent_table.specs.Lending.{TableId, hold_shares}
use Rattle.lent_table.specs.contracts.shared.Shared as table
use Rattle.lent_table.specs.contracts.shared.Seat as seat
use Rattle.lent_table.proofs.Fields.{SeatData, reads_table, shuts_table}
use Rattle.lent_table.proofs.Holding.{with_token, proved_holding}
use Rattle.lent_table.proofs.Seeing.{seen_in, sees}
use Rattle.lent_table.specs.contracts.shared.Seat.value_ref.{ended, clauses}
use Rattle.lent_table.specs.contracts.shared.Seat.value_ref.Key.{name as #self}
use Rattle.lent_table.proofs.shared.Seat.value_ref.Statement.{statement}
use Rattle.lent_table.proofs.shared.Seat.value_ref.Code as code

pub value_ref_spec : {M : Type 1} → statement M
unfolding code.code
value_ref_spec 𝓤 𝓛 𝓜 𝓡 wired T U Q P L _ _ _ g d _ =
    let H = 𝓛.H in let R : RattleType = param 0 T in
    let W : RattleType = param 1 U in let X : RattleType = param 2 Q in let Y : RattleType = param 3 P in
    let laws = param_laws 0 T L in
    let En = ended T U Q P g d in let c = clauses T U Q P g d 𝓛 𝓜.mem 𝓡.returns in
    let inst = bounded (a_type ∷ a_type ∷ a_type ∷ a_type ∷ []) (T, (U, (Q, (P, tt)))) (dcons d dnil) in
    let fn = inst_fn inst code.function in
    let Row : RattleType = table.the_row R W X Y g in let Sr : RattleType = seat.the_row R W in
    let self = RefOf (0 ∷ []) tt (plain (λ _. Sr)) (λ _. tt) in
    let about = RefOf (0 ∷ []) tt (plain (λ _. Row)) (λ _. tt) in
    let hs : Stays En.signature.params En.kept = (stay_dropped self yes, (stay_dropped about yes, tt)) in
    proved_holding 𝓛 En hs c (λ κs. (shr_vals, (shr_vals, tt))) 𝓜 𝓡 (
      Goes-dropped 𝓛 5 self yes (λ κs x f. refl),
      (
        Goes-dropped 𝓛 5 about yes (λ κs x f.
            refl),
        tt,
      ),
    ) (#self inst) fn (wired.0.0 (#self inst) refl)
    (λ κs. (shr_Tells (named 0) κs.0 Sr, (shr_Tells (named 0) κs.0 Row, tt)))
    (λ C Λ κs qs bounds a gh are.
    let κ : Lft = κs.0 in let b : ℕ = a.0.ref_ptr.0 in let o : ℕ = a.0.ref_ptr.1 in let s : Sr.Denot = a.0.now in
    let b' : ℕ = a.1.0.ref_ptr.0 in let o' : ℕ = a.1.0.ref_ptr.1 in let t : Row.Denot = a.1.0.now in
    let z : TableId = t.table_id in let at : Val = vptr z.block z.offset in
    let τ : Lft = κs.1.0 in let r : Share = qs.1.0 in let held = with_token 𝓛 En hs c in
    let y : (walk_of 𝓛 En hs held).Ghost = ((κs, qs, bounds, a, (vptr b o ∷ [], (vptr b' o' ∷ [], tt))), gh) in
    let Post : Val → SProp 𝓤 = (walk_of 𝓛 En hs held).post y in
    let more : Fml = fsep (flft κs.1.1.0 qs.1.1.0)
    (fsep (flft κs.1.1.1.0 qs.1.1.1.0) (fsep (flft κs.1.1.1.1.0 qs.1.1.1.1.0) ftrue)) in
    let Asked : Type 0 = (s.table_id ≡ z) × IsSome (value_of s.me.1) in
    qed 𝓛 (((‵ (flft κ qs.0) ⊛ ‵ (flft τ r) ⊛ ‵ more) ⊛ ‵ (owns (types_at En.signature.params κs) a y.0.4))
    ∷ ‵ (ftok every) ∷ raw (fact 𝓤 (τ ⊑ T.lives)) ∷ raw (fact 𝓤 _) ∷ raw (fact 𝓤 _) ∷ raw (fact 𝓤 _)
    ∷ given Asked (‵ ftrue) ∷ []) ∵
    keep ! (6 ∷ 2 ∷ 0 ∷ 1 ∷ []) $ learn ! (λ asked. drop ! $ heard ! (τ ⊑ T.lives) (λ le.
    let seen = seen_in s.me.1 asked.1 in let x : T.Denot = seen.0 in let Told : Type 0 = value_of s.me.1 ≡ Some x in
    split ! $ split3 ! $ move ! (3 ∷ []) $ fsplit3 ! $ fsplit ! $ move ! (2 ∷ []) $ fsplit ! $
    keep ! (1 ∷ 5 ∷ 3 ∷ 6 ∷ 7 ∷ 8 ∷ []) $
    enter ! C Λ fn (vptr b o ∷ vptr b' o' ∷ []) Post $
    alloc_all ! (λ l. pass_all ! refl ((tt, tt), ((tt, tt), tt)) $ let Ev = env fn.locals l in
    -- [the table's fields; what shuts them; the fields, shut; that the age lasts; the invariant; the seat; the token
    -- of T; the other tokens; the thread's]
    reads_table R W X Y g ! tt t b' o' (λ q. first ! $ blocks ! $
    sets_last ! (addr ! (through ! refl (fld ! refl (hop ! (look_in ! 0 (sub ! 1 refl (whole !))) (stop !))))) refl
    (tt, tt) $
    exec ! C Λ Ev (tail fn.body) (at_ret Ev Post) $ sets ! (of_opd ! (get ! refl)) refl (tt, tt) $
    shuts_table R W X Y g ! tt t b' o' q $ move ! (4 ∷ []) $
    use1 𝓛 (‵ (hidden_shr (SeatData R W) κ (tt, tt) b o) ⊛ ‵ (fhide (seat.the_lent R W s (block_ptr b o) κ)))
    (lent_out 𝓛 (seat.struct R W) (seat.the_codes T.Denot U.Denot R.coded W.coded
    (phantom.the_row (Tuple (R ∷ W ∷ []))).coded) (seat.the_heap R W) (seat.the_lent R W) κ s b o) $
    split ! $ move ! (1 ∷ []) $ unhide ! $ rewrite ! 0
    (λ (u : TableId). ‵ (hold_shares R u s.me.1 κ)) asked.0 refl $
    move ! (4 ∷ 0 ∷ 2 ∷ 6 ∷ 8 ∷ []) $ group ! 5 $
    use1 𝓛 (later (‵ (hidden_shr R κ x z.block z.offset) ⊛ ‵ (flft κ qs.0) ⊛ ‵ (flft τ r) ⊛ ‵ (ftok every)))
    (sees 𝓛 R laws.shr_laws z R.lives (laws.shares 𝓛) κ qs.0 τ r le s.me.1 x seen.1) $ await ! tt $
    -- [the value; the tokens of κ, of T and of the thread; the seat's and the table's fields; the invariant; the
    -- other tokens]
    split ! $ move ! (1 ∷ []) $ split3 ! $ move ! (1 ∷ 7 ∷ []) $ join ! $ move ! (1 ∷ 0 ∷ []) $ join ! $
    move ! (2 ∷ []) $ feq_i ! (List Val) (at ∷ []) (at ∷ []) refl $ fjoin ! $
    use0 𝓛 (raw (fact 𝓤 Told)) (fact_i 𝓤 Told (emp 𝓤) seen.1) $ move ! (3 ∷ 0 ∷ []) $ join ! $
    nothing ! $ nothing ! $ fjoin ! $ nothing ! $ fjoin ! $
    returns ! (look_at ! 0 refl) $ free_all ! refl $ keep ! (3 ∷ 0 ∷ 2 ∷ 1 ∷ []) $
    by ! (leaves 𝓛 En hs held y at (record {
      ref_ptr = (z.block, z.offset);
      now =
          x;
    }) (tt, (tt, tt)) (tt, (tt, tt))))))))
