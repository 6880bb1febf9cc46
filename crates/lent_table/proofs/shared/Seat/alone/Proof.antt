-- `alone` compares what two seats have.
use Rattle.atomic_table.proofs.Names.{◌≡◌, ℕ, List, [], ◌∷◌, refl, a_type, named, Val, vunit, vptr, inst_fn, SProp}
use Rattle.atomic_table.proofs.Names.{emp, Fml, ftrue, fsep, flft, ‵, raw, ◌⊛◌, given, ◌$◌, ◌∵◌, !, qed, by, move}
use Rattle.atomic_table.proofs.Names.{keep, split, split3, join, fsplit, fsplit3, fjoin, fjoin3, use0, use2, learn}
use Rattle.atomic_table.proofs.Names.{feq_i, unit_lit, of_opd, returns, enter, alloc_all, pass_all, free_all, look_at}
use Rattle.atomic_table.proofs.Names.{sets, tables, RattleType, owns, types_at, plain, nothing, param, layouts, Stays}
use Rattle.atomic_table.proofs.Names.{walk_of, fact, fact_i, mut_vals, mut_Tells, opens, closes, stay_ref, Goes-ref}
use Rattle.atomic_table.proofs.Walks.{proved, leaves}
use Rattle.lent_table.specs.Lending.{hold_owns}
use Rattle.lent_table.specs.contracts.shared.Seat as seat
use Rattle.lent_table.proofs.Apart.{Alone, alone as compared}
use Rattle.lent_table.specs.contracts.shared.Seat.alone.{ended, clauses}
use Rattle.lent_table.specs.contracts.shared.Seat.alone.Key.{name as #self}
use Rattle.lent_table.proofs.shared.Seat.alone.Statement.{statement}
use Rattle.lent_table.proofs.shared.Seat.alone.Code as code

pub alone_spec : {M : Type 1} → statement M
alone_spec 𝓤 𝓛 𝓜 𝓡 wired X Y L _ =
    let H = 𝓛.H in let 𝓣 = tables 𝓤 H 𝓜 𝓡 𝓡.env in let R : RattleType = param 0 X in
    let W : RattleType = param 1 Y in let En = ended X Y in
    let inst = layouts (a_type ∷ a_type ∷ []) (X, (Y, tt)) in let fn = inst_fn inst code.function in
    let Sr : RattleType = seat.the_row R W in let sitter = plain (λ _. Sr) in
    let hs : Stays En.signature.params En.kept = (stay_ref (0 ∷ []) tt sitter, (stay_ref (1 ∷ []) tt sitter, tt))
    in let c = clauses X Y 𝓛 𝓜.mem 𝓡.returns in
    proved 𝓛 En hs c 𝓜 𝓡 (Goes-ref 𝓛 4 0 tt sitter, (Goes-ref 𝓛 4 1 tt sitter, tt)) (#self inst) fn
    (code.unfolded 𝓤 H 𝓜 𝓡 wired (X, (Y, tt)))
    (λ κs. (mut_vals, (mut_vals, tt))) (λ κs. (mut_Tells (named 0) κs.0 Sr, (mut_Tells (named 1) κs.1.0 Sr, tt)))
    (λ κs qs bounds a gh are.
    let b : ℕ = a.0.ref_ptr.0 in let o : ℕ = a.0.ref_ptr.1 in let s : Sr.Denot = a.0.now in
    let b' : ℕ = a.1.0.ref_ptr.0 in let o' : ℕ = a.1.0.ref_ptr.1 in let u : Sr.Denot = a.1.0.now in
    let y : (walk_of 𝓛 En hs c).Ghost = ((κs, qs, bounds, a, (vptr b o ∷ [], (vptr b' o' ∷ [], tt))), gh) in
    let Post : Val → SProp 𝓤 = (walk_of 𝓛 En hs c).post y in
    let more : Fml = fsep (flft κs.1.1.0 qs.1.1.0) (fsep (flft κs.1.1.1.0 qs.1.1.1.0) ftrue) in
    let Same : Type 0 = (s ≡ s) × (u ≡ u) in let Told : Type 0 = Alone s.table_id u.table_id s.me.1 u.me.1 in
    qed 𝓛 (((‵ (flft κs.0 qs.0) ⊛ ‵ (flft κs.1.0 qs.1.0) ⊛ ‵ more)
    ⊛ ‵ (owns (types_at En.signature.params κs) a y.0.4)) ∷ raw (fact 𝓤 _) ∷ raw (fact 𝓤 _) ∷ ‵ ftrue ∷ []) ∵
    keep ! (0 ∷ []) $ split ! $ split3 ! $ move ! (3 ∷ []) $ fsplit3 ! $ fsplit3 ! $ move ! (3 ∷ []) $ fsplit3 ! $
    -- [the first seat's name and borrow; its token; the second's; the other tokens]
    keep ! (4 ∷ 5 ∷ 7 ∷ 1 ∷ 2 ∷ 8 ∷ 9 ∷ []) $
    enter ! 𝓣.C 𝓣.Λ fn (vptr b o ∷ vptr b' o' ∷ []) Post $
    alloc_all ! (λ l. pass_all ! refl ((tt, tt), ((tt, tt), tt)) $
    opens ! tt Sr b o (λ vs. move ! (5 ∷ 6 ∷ 7 ∷ []) $ opens ! tt Sr b' o' (λ vs'. move ! (1 ∷ []) $ fsplit ! $
    move ! (1 ∷ []) $ fsplit ! $ move ! (8 ∷ []) $ fsplit ! $ move ! (1 ∷ []) $ fsplit ! $
    -- [what the first has; its view; its fields; the same three of the second; the second's borrow; the first's]
    move ! (0 ∷ 3 ∷ []) $ use2 𝓛 (given Told (‵ (hold_owns R s.table_id s.me.1)
    ⊛ ‵ (hold_owns R u.table_id u.me.1))) (compared 𝓛 R s.table_id u.table_id s.me.1 u.me.1) $
    learn ! (λ so. split ! $ move ! (1 ∷ 4 ∷ []) $ fjoin ! $ move ! (4 ∷ 0 ∷ []) $ fjoin ! $
    move ! (4 ∷ 0 ∷ 5 ∷ 6 ∷ 7 ∷ []) $ closes ! tt Sr u vs' b' o' $
    feq_i ! (List Val) (vptr b' o' ∷ []) (vptr b' o' ∷ []) refl $ fjoin3 ! $ move ! (2 ∷ 3 ∷ []) $ fjoin ! $
    move ! (3 ∷ 0 ∷ []) $ fjoin ! $
    move ! (3 ∷ 0 ∷ 4 ∷ 5 ∷ 6 ∷ []) $ closes ! tt Sr s vs b o $
    feq_i ! (List Val) (vptr b o ∷ []) (vptr b o ∷ []) refl $ fjoin3 ! $
    nothing ! $ move ! (3 ∷ 0 ∷ []) $ fjoin ! $ move ! (1 ∷ 0 ∷ []) $ fjoin ! $ move ! (2 ∷ 3 ∷ []) $ join ! $
    move ! (2 ∷ 0 ∷ []) $ join ! $
    sets ! (of_opd ! (unit_lit !)) refl (tt, tt) $ use0 𝓛 (raw (fact 𝓤 Told)) (fact_i 𝓤 Told (emp 𝓤) so) $
    use0 𝓛 (raw (fact 𝓤 Same)) (fact_i 𝓤 Same (emp 𝓤) (refl, refl)) $ join ! $
    feq_i ! (List Val) (vunit ∷ []) (vunit ∷ []) refl $
    returns ! (look_at ! 0 refl) $ free_all ! refl $ keep ! (2 ∷ 3 ∷ 0 ∷ 1 ∷ []) $
    by ! (leaves 𝓛 En hs c y vunit tt (s, (u, tt)) (tt, (tt, tt))))))))
