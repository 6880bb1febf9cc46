-- The token of the seat's view goes where nobody has it.
use Rattle.atomic_table.proofs.Names.{◌≡◌, List, [], ◌∷◌, refl, a_type, Val, inst_fn, SProp, emp, Fml, ‵, raw, ◌⊛◌}
use Rattle.atomic_table.proofs.Names.{given, later, ◌$◌, ◌∵◌, !, qed, by, move, keep, split, join, fsplit, fjoin}
use Rattle.atomic_table.proofs.Names.{use0, use1, await, no_more, and_then, returns, enter, alloc_all, pass_all}
use Rattle.atomic_table.proofs.Names.{free_all, look_at, get, sets, agg, tables, no, RattleType, owns, types_at, plain}
use Rattle.atomic_table.proofs.Names.{nothing, param, layouts, alive, Stays, stay_dropped, walk_of, Goes-dropped}
use Rattle.atomic_table.proofs.Names.{fact, fact_i}
use Rattle.atomic_table.proofs.Walks.{proved, leaves}
use Rattle.atomic_table.proofs.Fields.{token_val}
use base.Share.{three_quarters}
use Rattle.atomic_table.specs.Seated.{seen}
use Rattle.lent_table.specs.Lending.{has_left}
use Rattle.lent_table.specs.contracts.shared.Seat as seat
use Rattle.lent_table.specs.contracts.shared.Left as left
use Rattle.lent_table.proofs.Fields.{seat_told, LeftData, left_made}
use Rattle.lent_table.specs.contracts.shared.Seat.leave.{ended, clauses}
use Rattle.lent_table.specs.contracts.shared.Seat.leave.Key.{name as #self}
use Rattle.lent_table.proofs.shared.Seat.leave.Statement.{statement}
use Rattle.lent_table.proofs.shared.Seat.leave.Code as code

pub leave_spec : {M : Type 1} → statement M
leave_spec 𝓤 𝓛 𝓜 𝓡 wired T U _ _ =
    let H = 𝓛.H in let 𝓣 = tables 𝓤 H 𝓜 𝓡 𝓡.env in
    let R : RattleType = param 0 T in let W : RattleType = param 1 U in
    let En = ended T U in let c = clauses T U 𝓛 𝓜.mem 𝓡.returns in
    let inst = layouts (a_type ∷ a_type ∷ []) (T, (U, tt)) in let fn = inst_fn inst code.function in
    let Sr : RattleType = seat.the_row R W in let Lr : RattleType = left.the_row W in
    let hs : Stays En.signature.params En.kept = (stay_dropped (plain (λ _. Sr)) no, tt) in
    proved 𝓛 En hs c 𝓜 𝓡 (Goes-dropped 𝓛 2 (plain (λ _. Sr)) no (λ κs x f. refl), tt) (#self inst) fn
    (code.unfolded 𝓤 H 𝓜 𝓡 wired (T, (U, tt)))
    (λ κs. ((λ x. token_val ∷ []), tt)) (λ κs. ((λ x vs so. seat_told R W vs so.0), tt)) (λ κs qs bounds a gh are.
    let s : Sr.Denot = a.0 in
    let l : Lr.Denot = record { marker = record {}; table_id = s.table_id; id = s.id; view = s.me.0 } in
    let y : (walk_of 𝓛 En hs c).Ghost = ((κs, qs, bounds, a, (token_val ∷ [], tt)), gh) in
    let Post : Val → SProp 𝓤 = (walk_of 𝓛 En hs c).post y in
    let mine : Fml = seen W.coded.code s.table_id.views_name s.id three_quarters s.me.0 in
    let gone : Fml = has_left W.coded.code s.table_id s.id s.me.0 in
    let Told : Type 0 = (l.table_id ≡ s.table_id) × (l.id ≡ s.id) × (l.view ≡ s.me.0) in
    qed 𝓛 ((raw (alive 𝓛 En.signature κs qs) ⊛ ‵ (owns (types_at En.signature.params κs) a y.0.4))
    ∷ raw ((c κs a).requires gh) ∷ []) ∵
    split ! $ move ! (1 ∷ []) $ fsplit ! $ fsplit ! $ move ! (1 ∷ []) $ fsplit ! $ keep ! (1 ∷ 4 ∷ []) $
    enter ! 𝓣.C 𝓣.Λ fn (token_val ∷ []) Post $ alloc_all ! (λ l'. pass_all ! refl ((tt, (tt, tt)), tt) $
    use1 𝓛 (later (‵ gone)) (𝓛.invs.inv_new mine) $ await ! tt $
    sets ! (agg ! (no_more !)) refl (tt, tt) $ sets ! (agg ! (and_then ! (get ! refl) (no_more !))) refl (
      tt,
      (tt, tt),
    ) $
    use0 𝓛 (‵ ((LeftData W).own_val (tt, tt) (token_val ∷ []))) (left_made W 𝓛) $ fjoin ! $
    nothing ! $ nothing ! $ fjoin ! $ use0 𝓛 (raw (fact 𝓤 Told)) (fact_i 𝓤 Told (emp 𝓤) (refl, refl, refl)) $
    returns ! (look_at ! 0 refl) $ free_all ! refl $ keep ! (3 ∷ 1 ∷ 2 ∷ 0 ∷ []) $
    by ! (leaves 𝓛 En hs c y token_val l (tt, tt) (tt, tt))))
