-- `doze` looks at the word, and waits: the table is as it was.
use Rattle.atomic_table.proofs.Names.{ℕ, ◌^◌, ◌<◌, List, [], ◌∷◌, refl, w64, a_type, dcons, dnil, named, Val, vunit}
use Rattle.atomic_table.proofs.Names.{vint, vptr, inst_fn, SProp, Lft, Share, Fml, ftrue, fsep, flft, ‵, raw, ◌⊛◌}
use Rattle.atomic_table.proofs.Names.{mean, at_ret, ◌$◌, ◌∵◌, !, qed, by, move, keep, drop, split, split3, join}
use Rattle.atomic_table.proofs.Names.{fsplit, fsplit3, fjoin, use1, use3, feq_i, unit_lit, of_opd, no_more, and_then}
use Rattle.atomic_table.proofs.Names.{exec, Calls-last, returns, enter, alloc_all, pass_all, free_all, look_at, get}
use Rattle.atomic_table.proofs.Names.{sets, lands_last, env, tables, yes, RattleType, owns, types_at, plain, Ptr}
use Rattle.atomic_table.proofs.Names.{block_ptr, nothing, heard, param, bounded, Stays, stay_dropped, walk_of}
use Rattle.atomic_table.proofs.Names.{Goes-dropped, fact, block_of, count_of, RefOf, u64, shr_vals, shr_Tells}
use Rattle.atomic_table.proofs.Names.{uint_vals, uint_Tells, obor_close, ◌⊑◌}
use Rattle.atomic_table.proofs.Walks.{proved, leaves}
use Rattle.atomic_table.proofs.Calls.{fm, stored, has_stored, lent, parks}
use types.Kit.{group}
use Rattle.core.proofs.atomic.Steps.{tail}
use Rattle.core.specs.Sync.RawAtomic.{asks, always}
use Rattle.lent_table.specs.Lending.{TableId, age}
use Rattle.lent_table.specs.contracts.shared.Shared as table
use Rattle.lent_table.proofs.Fields.{reaches_word}
use Rattle.lent_table.proofs.Stepping.{glances}
use Rattle.lent_table.specs.contracts.shared.Shared.doze.{ended, clauses}
use Rattle.lent_table.specs.contracts.shared.Shared.doze.Key.{name as #self}
use Rattle.lent_table.proofs.shared.Shared.doze.Statement.{statement}
use Rattle.lent_table.proofs.shared.Shared.doze.Code as code

pub doze_spec : {M : Type 1} → statement M
doze_spec 𝓤 𝓛 𝓜 𝓡 wired T U Q P Z _ _ _ _ L g d g' d' _ may =
    let H = 𝓛.H in let 𝓣 = tables 𝓤 H 𝓜 𝓡 𝓡.env in
    let R : RattleType = param 0 T in let W : RattleType = param 1 U in let X : RattleType = param 2 Q in
    let Y : RattleType = param 3 P in
    let En = ended T U Q P Z g d g' d' in let c = clauses T U Q P Z g d g' d' 𝓛 𝓜.mem 𝓡.returns in
    let inst = bounded (a_type ∷ a_type ∷ a_type ∷ a_type ∷ a_type ∷ []) (T, (U, (Q, (P, (Z, tt)))))
    (dcons d (dcons d' dnil)) in let fn = inst_fn inst code.function in
    let Row : RattleType = table.the_row R W X Y g in
    let self = RefOf (0 ∷ []) tt (plain (λ _. Row)) (λ _. tt) in
    let runtime = RefOf (1 ∷ []) tt (plain (λ _. param 4 Z)) (λ _. tt) in let number = plain (λ _. u64) in
    let stays = stay_dropped number yes in
    let hs : Stays En.signature.params En.kept = (
      stay_dropped self yes,
      (stay_dropped runtime yes, (stays, (stays, (stays, tt)))),
    ) in
    let goes = Goes-dropped 𝓛 7 number yes (λ κs x f. refl) in
    proved 𝓛 En hs c 𝓜 𝓡 (
      Goes-dropped 𝓛 7 self yes (λ κs x f.
          refl),
      (Goes-dropped 𝓛 7 runtime yes (λ κs x f. refl), (goes, (goes, (goes, tt)))),
    ) (#self inst) fn
    (code.unfolded 𝓤 H 𝓜 𝓡 wired (T, (U, (Q, (P, (Z, tt))))) d d')
    (λ κs. (shr_vals, (shr_vals, (uint_vals w64, (uint_vals w64, (uint_vals w64, tt)))))) (λ κs. (
      shr_Tells (named 0) κs.0 Row,
      (
        shr_Tells (named 1) κs.1.0 (param 4 Z),
        (
          uint_Tells w64,
          (
            uint_Tells w64,
            (uint_Tells w64, tt),
          ),
        ),
      ),
    )) (λ κs qs bounds a gh are.
    let κ : Lft = κs.0 in let b : ℕ = a.0.ref_ptr.0 in let o : ℕ = a.0.ref_ptr.1 in let t : Row.Denot = a.0.now in
    let z : TableId = t.table_id in let w : Ptr = t.word in let at : Ptr = block_ptr (block_of w) (count_of w) in
    let rt = a.1.0 in let handle : Val = vptr rt.ref_ptr.0 rt.ref_ptr.1 in
    let low : ℕ = a.1.1.0 in let secs : ℕ = a.1.1.1.0 in let nanos : ℕ = a.1.1.1.1.0 in
    let f₀ : low < 2 ^ 64 = are.1.1.0.1 in let f₁ : secs < 2 ^ 64 = are.1.1.1.0.1 in
    let f₂ : nanos < 2 ^ 64 = are.1.1.1.1.0.1 in
    let numbers : List Val = vint w64 low ∷ vint w64 secs ∷ vint w64 nanos ∷ [] in
    let ρ : Lft = κs.1.0 in let r : Share = qs.1.0 in
    let υ : Lft = κs.1.1.1.1.1.1.0 in let e : Share = qs.1.1.1.1.1.1.0 in
    let y : (walk_of 𝓛 En hs c).Ghost = (
      (
        κs,
        qs,
        bounds,
        a,
        (vptr b o ∷ [], (handle ∷ [], (vint w64 low ∷ [], (vint w64 secs ∷ [], (vint w64 nanos ∷ [], tt))))),
      ),
      gh,
    ) in
    let Post : Val → SProp 𝓤 = (walk_of 𝓛 En hs c).post y in
    let more : Fml = fsep (flft κs.1.1.0 qs.1.1.0) (fsep (flft κs.1.1.1.0 qs.1.1.1.0)
    (fsep (flft κs.1.1.1.1.0 qs.1.1.1.1.0) (fsep (flft κs.1.1.1.1.1.0 qs.1.1.1.1.1.0)
    (fsep (flft υ e) ftrue)))) in
    qed 𝓛 (((‵ (flft κ qs.0) ⊛ ‵ (flft ρ r) ⊛ ‵ more) ⊛ ‵ (owns (types_at En.signature.params κs) a y.0.4))
    ∷ raw (fact 𝓤 _) ∷ raw (fact 𝓤 _) ∷ raw (fact 𝓤 _) ∷ raw (fact 𝓤 _) ∷ raw (fact 𝓤 (υ ⊑ Z.lives)) ∷ ‵ ftrue
    ∷ []) ∵
    keep ! (5 ∷ 0 ∷ []) $ heard ! (υ ⊑ Z.lives) (λ lives. split ! $ split3 ! $ move ! (2 ∷ []) $ fsplit3 ! $
    move ! (2 ∷ []) $ fsplit3 ! $ move ! (2 ∷ []) $ fsplit ! $ move ! (8 ∷ []) $ fsplit3 ! $ fsplit ! $
    move ! (2 ∷ []) $ fsplit ! $ keep ! (3 ∷ 11 ∷ 1 ∷ 12 ∷ 5 ∷ 9 ∷ 10 ∷ 7 ∷ 8 ∷ []) $
    enter ! 𝓣.C 𝓣.Λ fn (vptr b o ∷ handle ∷ numbers) Post $
    alloc_all ! (λ l. pass_all ! refl (
      (tt, tt),
      (
        (tt, tt),
        (
          (tt, record { fits = f₀ }),
          (
            (tt, record { fits = f₁ }),
            ((tt, record { fits = f₂ }), tt),
          ),
        ),
      ),
    ) $ let Ev = env fn.locals l in
    reaches_word R W X Y g ! t b o (λ _. refl) (λ _. refl) (tt, tt) (λ _. refl) (λ s.
    let kept : Fml = fsep (flft (age z) s) ftrue in
    let Out : Fml = lent 𝓛 𝓜 𝓡 Z L g' d' may ρ υ r e rt kept in
    -- [the borrow of the age's token; that; the table's fields; the invariant; the runtime; its token; that of its
    -- type; the other tokens]
    nothing ! $ move ! (4 ∷ 2 ∷ 0 ∷ []) $
    use3 𝓛 (raw (asks 𝓛 at (λ n. n) always (λ _. kept))) (glances 𝓛 R W.coded (g.holds t.key) w t.value z s) $
    move ! (0 ∷ 3 ∷ 4 ∷ 5 ∷ []) $ group ! 4 $
    use1 𝓛 (raw (𝓣.C _ (handle ∷ vptr (block_of w) (count_of w) ∷ numbers) (λ u. mean 𝓛 (stored Out u))))
    (parks 𝓛 𝓜 𝓡 Z L g' d' may ρ υ r e rt (code.calls-core::raw_atomic::park 𝓡.env wired) bounds.1.1.1.1.0 lives
    at low secs nanos f₀ f₁ f₂ kept) $
    Calls-last ! (fm 𝓛 𝓜 𝓡) (stored Out) (and_then ! (get ! refl) (and_then ! (get ! refl) (and_then ! (get ! refl)
    (and_then ! (get ! refl) (and_then ! (get ! refl) (no_more !)))))) (λ u. has_stored ! Out (
    lands_last ! refl (tt, tt) $ exec ! 𝓣.C 𝓣.Λ Ev (tail fn.body) (at_ret Ev Post) $
    sets ! (of_opd ! (unit_lit !)) refl (tt, tt) $
    fsplit3 ! $ fsplit ! $ move ! (4 ∷ 0 ∷ []) $ obor_close ! tt $ drop ! $
    -- [the token of κ; nothing; the runtime's token; that of its type; the table's fields; the other tokens]
    move ! (3 ∷ 1 ∷ []) $ fjoin ! $ move ! (7 ∷ 0 ∷ []) $ fjoin ! $ move ! (6 ∷ 0 ∷ []) $ fjoin ! $
    move ! (5 ∷ 0 ∷ []) $ fjoin ! $ move ! (4 ∷ 0 ∷ []) $ fjoin ! $ move ! (2 ∷ 0 ∷ []) $ join ! $
    move ! (1 ∷ 0 ∷ []) $ join ! $
    nothing ! $ nothing ! $ fjoin ! $ nothing ! $ fjoin ! $ nothing ! $ fjoin ! $ nothing ! $ fjoin ! $
    nothing ! $ fjoin ! $ nothing ! $ feq_i ! (List Val) (vunit ∷ []) (vunit ∷ []) refl $
    returns ! (look_at ! 0 refl) $ free_all ! refl $ keep ! (3 ∷ 2 ∷ 0 ∷ 1 ∷ []) $
    by ! (leaves 𝓛 En hs c y vunit tt (tt, (tt, (tt, (tt, (tt, tt))))) (tt, (tt, (tt, (tt, (tt, tt))))))))))))
