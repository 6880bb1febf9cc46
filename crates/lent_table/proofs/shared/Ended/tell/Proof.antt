-- What an `Ended` owns is what the clause says.
use Rattle.atomic_table.proofs.Names.{List, [], ◌∷◌, refl, a_type, Val, vunit, inst_fn, SProp, ‵, raw, ◌⊛◌, ◌$◌, ◌∵◌}
use Rattle.atomic_table.proofs.Names.{ !, qed, by, move, keep, split, fsplit, fjoin, feq_i, unit_lit, of_opd, returns}
use Rattle.atomic_table.proofs.Names.{enter, alloc_all, pass_all, free_all, look_at, sets, tables, no, RattleType}
use Rattle.atomic_table.proofs.Names.{owns, types_at, plain, nothing, param, layouts, alive, Stays, stay_dropped}
use Rattle.atomic_table.proofs.Names.{walk_of, Goes-dropped}
use Rattle.atomic_table.proofs.Walks.{proved, leaves}
use Rattle.atomic_table.proofs.Fields.{token_val}
use Rattle.lent_table.specs.contracts.shared.Ended as ended_table
use Rattle.lent_table.proofs.Fields.{ended_told}
use Rattle.lent_table.specs.contracts.shared.Ended.tell.{ended, clauses}
use Rattle.lent_table.specs.contracts.shared.Ended.tell.Key.{name as #self}
use Rattle.lent_table.proofs.shared.Ended.tell.Statement.{statement}
use Rattle.lent_table.proofs.shared.Ended.tell.Code as code

pub tell_spec : {M : Type 1} → statement M
tell_spec 𝓤 𝓛 𝓜 𝓡 wired U _ =
    let H = 𝓛.H in let 𝓣 = tables 𝓤 H 𝓜 𝓡 𝓡.env in let W : RattleType = param 0 U in
    let En = ended U in let c = clauses U 𝓛 𝓜.mem 𝓡.returns in
    let inst = layouts (a_type ∷ []) (U, tt) in let fn = inst_fn inst code.function in
    let Er : RattleType = ended_table.the_row W in
    let hs : Stays En.signature.params En.kept = (stay_dropped (plain (λ _. Er)) no, tt) in
    proved 𝓛 En hs c 𝓜 𝓡 (Goes-dropped 𝓛 1 (plain (λ _. Er)) no (λ κs x f. refl), tt) (#self inst) fn
    (code.unfolded 𝓤 H 𝓜 𝓡 wired (U, tt))
    (λ κs. ((λ x. token_val ∷ []), tt)) (λ κs. ((λ x vs so. ended_told W vs so.0), tt)) (λ κs qs bounds a gh are.
    let y : (walk_of 𝓛 En hs c).Ghost = ((κs, qs, bounds, a, (token_val ∷ [], tt)), gh) in
    let Post : Val → SProp 𝓤 = (walk_of 𝓛 En hs c).post y in
    qed 𝓛 ((raw (alive 𝓛 En.signature κs qs) ⊛ ‵ (owns (types_at En.signature.params κs) a y.0.4))
    ∷ raw ((c κs a).requires gh) ∷ []) ∵
    split ! $ move ! (1 ∷ []) $ fsplit ! $ fsplit ! $ keep ! (1 ∷ 3 ∷ []) $
    enter ! 𝓣.C 𝓣.Λ fn (token_val ∷ []) Post $ alloc_all ! (λ l'. pass_all ! refl ((tt, (tt, tt)), tt) $
    sets ! (of_opd ! (unit_lit !)) refl (tt, tt) $
    feq_i ! (List Val) (vunit ∷ []) (vunit ∷ []) refl $ nothing ! $ nothing ! $ fjoin ! $
    returns ! (look_at ! 0 refl) $ free_all ! refl $ keep ! (3 ∷ 0 ∷ 1 ∷ 2 ∷ []) $
    by ! (leaves 𝓛 En hs c y vunit tt (tt, tt) (tt, tt))))
