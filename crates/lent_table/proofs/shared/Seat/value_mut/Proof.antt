-- `value_mut` lends the value for as long as the seat and the table are borrowed, and the seat follows what is
-- written.
use Rattle.atomic_table.proofs.Names.{◌≡◌, ℕ, List, [], ◌∷◌, refl, sym, ap, a_type, dcons, dnil, named, Val, vptr}
use Rattle.atomic_table.proofs.Names.{inst_fn, SProp, ent, sep, emp, Lft, Share, Fml, ftrue, fsep, flft, fbor, fobs}
use Rattle.atomic_table.proofs.Names.{sem, ‵, raw, ◌⊛◌, some, given, later, at_ret, ◌$◌, ◌∵◌, !, qed, by, move, keep}
use Rattle.atomic_table.proofs.Names.{drop, split, split3, join, group, fsplit, fsplit3, fjoin, fjoin3, fpick, fpack}
use Rattle.atomic_table.proofs.Names.{pick, learn, await, done, use0, use1, rewrite, feq_i, of_opd, get, stop, fld}
use Rattle.atomic_table.proofs.Names.{addr, first, blocks, exec, returns, enter, alloc_all, pass_all, free_all}
use Rattle.atomic_table.proofs.Names.{look_at, through, sets, sets_last, env, sub, whole, look_in, tables, yes, no}
use Rattle.atomic_table.proofs.Names.{RattleType, owns, types_at, plain, nothing, param, bounded, Stays, stay_dropped}
use Rattle.atomic_table.proofs.Names.{walk_of, Goes-dropped, Goes-spent_ref, fact, fact_i, RefOf, RefMutOf, mut_vals}
use Rattle.atomic_table.proofs.Names.{mut_Tells, shr_vals, shr_Tells, part_at, part_out, part_in, full_share, mem}
use Rattle.atomic_table.proofs.Names.{follows}
use Rattle.atomic_table.proofs.Walks.{proved, leaves}
use Rattle.atomic_table.proofs.Through.{hands_out}
use Rattle.atomic_table.specs.Seated.{seen}
use Rattle.counted_slot.specs.Counting.{tag}
use base.Fml.{fex}
use base.Share.{three_quarters}
use types.SemTy.{Body}
use types.Run.{hop}
use Rattle.core.proofs.atomic.Steps.{tail}
use Rattle.lent_table.specs.Table.{Hold, writes}
use Rattle.lent_table.specs.Lending.{TableId, age, kept, writing, hold_owns, seat_owns}
use Rattle.lent_table.specs.Written.{seat_with}
use Rattle.lent_table.specs.contracts.shared.Shared as table
use Rattle.lent_table.specs.contracts.shared.Seat as seat
use Rattle.lent_table.proofs.Fields.{SeatData, reads_table, shuts_table}
use Rattle.lent_table.specs.contracts.shared.Seat.value_mut.{ended, clauses}
use Rattle.lent_table.specs.contracts.shared.Seat.value_mut.Key.{name as #self}
use Rattle.lent_table.proofs.shared.Seat.value_mut.Statement.{statement}
use Rattle.lent_table.proofs.shared.Seat.value_mut.Code as code

written_same : {X : Type 0} (x y : X) → writes x ≡ writes y → x ≡ y
written_same x y e = cc

pub value_mut_spec : {M : Type 1} → statement M
value_mut_spec 𝓤 𝓛 𝓜 𝓡 wired T U Q P _ _ _ _ g d _ =
    let H = 𝓛.H in let A = 𝓛.A in let 𝓣 = tables 𝓤 H 𝓜 𝓡 𝓡.env in
    let R : RattleType = param 0 T in let W : RattleType = param 1 U in let X : RattleType = param 2 Q in
    let Y : RattleType = param 3 P in
    let En = ended T U Q P g d in let c = clauses T U Q P g d 𝓛 𝓜.mem 𝓡.returns in
    let inst = bounded (a_type ∷ a_type ∷ a_type ∷ a_type ∷ []) (T, (U, (Q, (P, tt)))) (dcons d dnil) in
    let fn = inst_fn inst code.function in
    let Row : RattleType = table.the_row R W X Y g in let Sr : RattleType = seat.the_row R W in
    let self = RefMutOf (0 ∷ []) tt (plain (λ _. Sr)) (λ _. tt) in
    let about = RefOf (0 ∷ []) tt (plain (λ _. Row)) (λ _. tt) in
    let hs : Stays En.signature.params En.kept = (stay_dropped self no, (stay_dropped about yes, tt)) in
    proved 𝓛 En hs c 𝓜 𝓡 (
      Goes-spent_ref 𝓛 5 (0 ∷ []) tt (plain (λ _. Sr)),
      (
        Goes-dropped 𝓛 5 about yes (λ κs x f.
            refl),
        tt,
      ),
    ) (#self inst) fn (code.unfolded 𝓤 H 𝓜 𝓡 wired (T, (U, (Q, (P, tt)))) d)
    (λ κs. (mut_vals, (shr_vals, tt))) (λ κs. (mut_Tells (named 0) κs.0 Sr, (shr_Tells (named 0) κs.0 Row, tt)))
    (λ κs qs bounds a gh are.
    let κ : Lft = κs.0 in let q : Share = qs.0 in let b : ℕ = a.0.ref_ptr.0 in let o : ℕ = a.0.ref_ptr.1 in
    let s : Sr.Denot = a.0.now in let γ : ℕ = a.0.ghost_name in
    let b' : ℕ = a.1.0.ref_ptr.0 in let o' : ℕ = a.1.0.ref_ptr.1 in let t : Row.Denot = a.1.0.now in
    let z : TableId = t.table_id in let at : Val = vptr z.block z.offset in
    let y : (walk_of 𝓛 En hs c).Ghost = ((κs, qs, bounds, a, (vptr b o ∷ [], (vptr b' o' ∷ [], tt))), gh) in
    let Post : Val → SProp 𝓤 = (walk_of 𝓛 En hs c).post y in
    let more : Fml = fsep (flft κs.1.0 qs.1.0) (fsep (flft κs.1.1.0 qs.1.1.0)
    (fsep (flft κs.1.1.1.0 qs.1.1.1.0) (fsep (flft κs.1.1.1.1.0 qs.1.1.1.1.0) ftrue))) in
    let Asked : Type 0 = (s.table_id ≡ z) × ((x : T.Denot) × (s.me.1 ≡ writes x)) in
    let F : T.Denot → Sr.Denot = seat_with s in let Obs : T.Denot
    → Fml = λ x. fobs z.value_name (R.coded.code x) in let Bor : Fml = fbor (age z) (kept R z) in
    let Mark : Fml = part_at (SeatData R W) full_share (tt, tt) b o in
    let View : TableId → Fml = λ u. seen W.coded.code u.views_name s.id three_quarters s.me.0 in
    let Tag : ℕ → Fml = λ k. tag z.round_name full_share k in
    let Rest : SProp 𝓤 = sep 𝓤 (sem 𝓛 (fex ℕ Tag)) (sep 𝓤 (sem 𝓛 (View z)) (sem 𝓛 Mark)) in
    qed 𝓛 (((‵ (flft κ q) ⊛ ‵ more) ⊛ ‵ (owns (types_at En.signature.params κs) a y.0.4)) ∷ raw (fact 𝓤 _)
    ∷ raw (fact 𝓤 _) ∷ raw (fact 𝓤 _) ∷ raw (fact 𝓤 _) ∷ given Asked (‵ ftrue) ∷ []) ∵
    keep ! (5 ∷ 0 ∷ []) $ learn ! (λ asked. let old : T.Denot = asked.1.0 in
    -- what the seat owns, with x in it, is the value's name and its borrow, and the rest
    let Mine : TableId → T.Denot → Fml = λ u x. seat_owns R W.coded.code u s.id (s.me.0, writes x) in
    let back : (x : T.Denot) → ent 𝓤 (sep 𝓤 (sem 𝓛 (Obs x)) (sep 𝓤 (sem 𝓛 Bor) Rest))
    (sem 𝓛 (part_at Sr full_share (F x) b o)) = λ x.
    qed 𝓛 (‵ (Obs x) ∷ ‵ Bor ∷ ‵ (fex ℕ Tag) ∷ ‵ (View z) ∷ ‵ Mark ∷ []) ∵ move ! (2 ∷ []) $
    fpick ! (λ k. fjoin3 ! $ fpack ! ℕ (writing R z x) k $ fjoin ! $
    rewrite ! 0 (λ (u : TableId). ‵ (Mine u x)) (sym asked.0) refl $ move ! (1 ∷ 0 ∷ []) $
    by ! (part_in 𝓛 (seat.the_type R W) full_share (F x) b o)) in
    let cut : ent 𝓤 (sem 𝓛 (part_at Sr full_share s b o)) (sep 𝓤 (sem 𝓛 (Obs old)) (sep 𝓤 (sem 𝓛 Bor) Rest)) =
    qed 𝓛 (‵ (part_at Sr full_share s b o) ∷ []) ∵ use1 𝓛 (‵ Mark
    ⊛ ‵ (seat_owns R W.coded.code s.table_id s.id s.me)) (part_out 𝓛 (seat.the_type R W) full_share s b o) $
    split ! $ move ! (1 ∷ []) $ fsplit ! $ rewrite ! 0 (λ (u : TableId × Hold T.Denot). ‵ (hold_owns R u.0 u.1))
    (λ i. (asked.0 i, asked.1.1 i)) refl $
    move ! (1 ∷ []) $ rewrite ! 0 (λ (u : TableId). ‵ (View u)) asked.0 refl $ move ! (1 ∷ []) $
    fpick ! (λ k. fsplit3 ! $ fpack ! ℕ Tag k $ move ! (1 ∷ 2 ∷ 0 ∷ 3 ∷ 4 ∷ []) $ done !) in
    drop ! $ split ! $ split ! $ move ! (2 ∷ []) $ fsplit3 ! $ fsplit3 ! $ move ! (3 ∷ []) $ fsplit ! $
    keep ! (1 ∷ 6 ∷ 3 ∷ 4 ∷ 7 ∷ []) $
    enter ! 𝓣.C 𝓣.Λ fn (vptr b o ∷ vptr b' o' ∷ []) Post $
    alloc_all ! (λ l. pass_all ! refl ((tt, tt), ((tt, tt), tt)) $ let Ev = env fn.locals l in
    -- [the table's fields; what shuts them; the fields, shut; that the age lasts; the invariant; the seat's name and
    -- borrow; the other tokens]
    reads_table R W X Y g ! tt t b' o' (λ q'. first ! $ blocks ! $
    sets_last ! (addr ! (through ! refl (fld ! refl (hop ! (look_in ! 0 (sub ! 1 refl (whole !))) (stop !))))) refl
    (tt, tt) $
    exec ! 𝓣.C 𝓣.Λ Ev (tail fn.body) (at_ret Ev Post) $ sets ! (of_opd ! (get ! refl)) refl (tt, tt) $
    shuts_table R W X Y g ! tt t b' o' q' $ move ! (2 ∷ 4 ∷ 5 ∷ 0 ∷ []) $ group ! 4 $
    use1 𝓛 (later (some (λ (δ : ℕ). ‵ (fobs δ (R.coded.code old)) ⊛ ‵ (fbor κ (Body (mem R) z.block z.offset δ))
    ⊛ ‵ (flft κ q) ⊛ ‵ (follows Sr R γ δ F))))
    (hands_out 𝓛 (mem Sr) (mem R) F (λ x u same. written_same x u (ap (λ (r : Sr.Denot). r.me.1) same))
    b o z.block z.offset γ (age z) z.value_name κ Rest back q s old cut) $
    await ! tt $ pick ! (λ δ. split3 ! $ feq_i ! (List Val) (at ∷ []) (at ∷ []) refl $ fjoin3 ! $ move ! (1 ∷ []) $
    split ! $ move ! (0 ∷ 5 ∷ []) $ join ! $
    let Told : Type 0 = s.me.1 ≡ writes old in use0 𝓛 (raw (fact 𝓤 Told)) (fact_i 𝓤 Told (emp 𝓤) asked.1.1) $
    move ! (2 ∷ 0 ∷ []) $ join ! $
    nothing ! $ nothing ! $ fjoin ! $ nothing ! $ fjoin ! $ returns ! (look_at ! 0 refl) $ free_all ! refl $
    keep ! (2 ∷ 0 ∷ 3 ∷ 1 ∷ []) $
    by ! (leaves 𝓛 En hs c y at (record {
      ref_ptr = (z.block, z.offset);
      ghost_name = δ;
      now =
          old;
    }) (tt, (tt, tt)) (tt, (tt, tt))))))))
