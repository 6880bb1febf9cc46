-- Splits and joins of seats, and the load of two passes, keep the rule of a record's words. All are
-- made between calls.
use Rattle.std.proofs.Common.{◌≡◌, ◌≢◌, ℕ, ◌+◌, true, List, [], ◌∷◌, ◌++◌, map, take, drop, length}
use Rattle.std.proofs.Common.{Bool, true≢false, get_or, set, refl, ap, sym, ◌∙◌, subst, arith}
use mathlib.Core.Option.{none, some, some-injective}
use lib.ListN.{get_elem?}
use lib.Seq.{set-get_or}
use Rattle.atomic_table.specs.Seated.{TableId}
use Rattle.atomic_table.specs.Table.{State, keeps, step, Allows, Splits, Joins, Enters}
use Rattle.stamp_threads.specs.declared.record_view.RecordShape.{RecordShape}
use Rattle.stamp_threads.specs.declared.record_view.RecordPhase.{RecordPhase}
use Rattle.stamp_threads.specs.declared.record_view.RecordPhase.TheVariants.{Idle}
use Rattle.stamp_threads.specs.PassName.{HasGivenAll}
use Rattle.stamp_threads.specs.PassView.{after_split, split_off, entering}
use Rattle.stamp_threads.specs.inner.PassView.{knowing}
use Rattle.stamp_threads.specs.Seats.{alone}
use Rattle.stamp_threads.specs.inner.Seats.{StandsAt, both}
use Rattle.stamp_threads.specs.RecordLog.{RecordLog, is_call, is_mark, marks_of}
use Rattle.stamp_threads.specs.RecordPass.{RecordPassView, IsConsistentWith, IsConsistentIn}
use Rattle.stamp_threads.specs.RecordPass.{marks_ahead, HasEntered, first_of}
use Rattle.stamp_threads.specs.inner.RecordPass.{Seated, second_of}
use Rattle.stamp_threads.specs.inner.RecordRule.{Knows, KnowsPart, IsWriting, HasWriter, IsKept, MeetTells}
use Rattle.stamp_threads.proofs.Beginnings.{begins_all}
use Rattle.stamp_threads.proofs.ListElements.{only_one, two_of}
use Rattle.stamp_threads.proofs.MadeBy.{grows_none}
use Rattle.stamp_threads.proofs.GivenNames.{child_none, child_unused_all, given_more_all}
use Rattle.stamp_threads.proofs.GivenNames.{part-after_split, part-split_off}
use Rattle.stamp_threads.proofs.NewComers.{comes, new_part, new_none}
use Rattle.stamp_threads.proofs.SeatSteps.{same_two}
use Rattle.stamp_threads.proofs.SeatMoves.{gives, together, parted, stands_else, stands_before}
use Rattle.stamp_threads.proofs.RecordSteps.{Brings, with_views, passes_after, consistent_after}
use Rattle.stamp_threads.proofs.RecordSteps.{writer_in, idle_quiet}

idle_knows : (P : List ℕ → Type 0) (width : ℕ) (table_words : List ℕ) (log : RecordLog) (name : List ℕ)
    (phase : RecordPhase) → phase ≡ Idle → Knows P width table_words log name phase
idle_knows P width table_words log name phase e = subst (Knows P width table_words log name) (sym e) tt

fits-after_split : (P : List ℕ → Type 0) (width : ℕ) (table_words : List ℕ) (log : RecordLog) (v : RecordPassView) →
    KnowsPart P width table_words log v → KnowsPart P width table_words log (after_split v)
fits-after_split P width table_words log v f = record {
  part = part-after_split is_call log v f.part;
  marks = f.marks;
  knows = f.knows;
}

-- a new pass has no mark
no_marks : (log : RecordLog) (v : RecordPassView) → HasGivenAll v.name v.splits log →
    v.phase ≡ Idle → marks_of (split_off v).name log ≡ 0 + marks_ahead v.phase
no_marks log v h idle =
    let e : marks_of (split_off v).name log ≡ 0 =
    ap length (child_none is_mark v.name v.splits log h) in
    let f : marks_ahead v.phase ≡ 0 = ap marks_ahead idle in
    omega arith

fits-split_off : (P : List ℕ → Type 0) (width : ℕ) (table_words : List ℕ) (log : RecordLog) (v : RecordPassView) →
    v.phase ≡ Idle → KnowsPart P width table_words log v → KnowsPart P width table_words log (split_off v)
fits-split_off P width table_words log v idle f = record {
  part = part-split_off is_call log v f.part;
  marks = no_marks log v f.part.given idle;
  knows = idle_knows P width table_words log (split_off v).name v.phase idle;
}

-- the writer stands on no seat whose passes are idle
not_on : (views : List (List RecordPassView)) (id : ℕ) (vs : List RecordPassView) →
    get_elem? views id ≡ some vs →
    ((k : ℕ) (u : RecordPassView) → get_elem? vs k ≡ some u → u.phase ≡ Idle) →
    (i k : ℕ) (u : RecordPassView) → StandsAt views i k u → IsWriting u.phase → i ≢ id
not_on views id vs at idle i k u st writes e =
    let row : st.0 ≡ vs = some-injective _ _ (sym st.1 ∙ (ap (get_elem? views) e ∙ at)) in
    idle_quiet u.phase
    (idle k u (subst (λ (l : List RecordPassView). get_elem? l k ≡ some u) row st.2)) writes

one_idle : (v : RecordPassView) → v.phase ≡ Idle → (k : ℕ) (u : RecordPassView) →
    get_elem? (v ∷ []) k ≡ some u → u.phase ≡ Idle
one_idle v e = only_one (λ _ u. u.phase ≡ Idle) v e

two_idle : (v w : RecordPassView) → v.phase ≡ Idle → w.phase ≡ Idle → (k : ℕ)
    (u : RecordPassView) → get_elem? (v ∷ w ∷ []) k ≡ some u → u.phase ≡ Idle
two_idle v w e f = two_of (λ _ u. u.phase ≡ Idle) v w e f

-- the writer stands where it stood when one more seat is there
writer_before : (log : RecordLog) (views : List (List RecordPassView)) (us : List RecordPassView) →
    HasWriter log views → HasWriter log (views ++ us ∷ [])
writer_before log views us t = writer_in log views (views ++ us ∷ []) t
    (stands_before views us t.seat t.index t.writer t.stands)

-- a seat of idle passes gets others, and maybe one more seat is there
module _ (log : RecordLog) (views : List (List RecordPassView)) (id : ℕ)
    (vs : List RecordPassView) (at : get_elem? views id ≡ some vs)
    (idle : (k : ℕ) (u : RecordPassView) → get_elem? vs k ≡ some u → u.phase ≡ Idle)
    (t : HasWriter log views) where
  writer_stays : (ws : List RecordPassView) → HasWriter log (set views id ws)
  writer_stays ws = writer_in log views (set views id ws) t
      (stands_else views id ws t.seat t.index t.writer
      (not_on views id vs at idle t.seat t.index t.writer t.stands t.writes) t.stands)

  writer_beside : (ws us : List RecordPassView) → HasWriter log (set views id ws ++ us ∷ [])
  writer_beside ws us = writer_before log (set views id ws) us (writer_stays ws)

split_kept : {enterable : Bool} (P : List ℕ → Type 0) (shape : RecordShape)
    (s : State (Unit {0}) (List RecordPassView))
    (r : IsKept enterable P shape s) (id : ℕ) (v : RecordPassView) →
    get_elem? s.views id ≡ some (v ∷ []) → v.phase ≡ Idle →
    IsKept enterable P shape record {
      words = s.words;
      homes = s.homes;
      views = set s.views id (after_split v ∷ []) ++ (split_off v ∷ []) ∷ [];
    }
split_kept P shape s r id v here idle =
    let f = r.passes.fits id 0 v (v ∷ [], here, refl) in
    with_views P shape s r r.roots r.one_root (set s.views id (after_split v ∷ []) ++ (split_off v ∷ []) ∷ [])
    (gives (KnowsPart P shape.width s.words r.log) r.roots r.log s.views r.passes id v here
    (fits-after_split P shape.width s.words r.log v f)
    (fits-split_off P shape.width s.words r.log v idle f))
    (λ l. writer_beside r.log s.views id (v ∷ []) here (one_idle v idle) (r.writer l)
    (after_split v ∷ []) (split_off v ∷ []))

-- a pass gives a new one
pub splits_give : (enterable : Bool) (P : List ℕ → Type 0) (shape : RecordShape) (id : ℕ) (me : Seated) → me ≡
    alone (first_of me.0) →
    (first_of me.0).phase ≡ Idle →
    Splits (IsKept enterable P shape) id me.0 (map after_split me.0) (map split_off me.0)
splits_give enterable P shape id me is idle =
    subst (λ (vs : List RecordPassView). Splits (IsKept enterable P shape) id vs (map after_split vs)
    (map split_off vs)) (sym (ap (λ (m : Seated). m.0) is))
    (λ s r at. split_kept P shape s r id (first_of me.0) at idle)

pub splits_consistent : (width : ℕ) (v : RecordPassView) → v.phase ≡ Idle →
    IsConsistentWith width v →
    IsConsistentWith width (after_split v) × IsConsistentWith width (split_off v)
splits_consistent width v idle c = (
  record {
    legal = c.legal;
    own = c.own;
    marks = c.marks;
    given = given_more_all v.name v.splits (v.splits + 1) v.known (omega arith) c.given;
  },
  record {
    legal = c.legal;
    own = child_none is_call v.name v.splits v.known c.given;
    marks = no_marks v.known v c.given idle;
    given = child_unused_all v.name v.splits v.known c.given;
  },
)

-- the width of a pass's record is known by its table
pub consistent_in : (table : TableId) (width : ℕ) (v : RecordPassView) →
    table.words ≡ width + 1 → IsConsistentWith width v → IsConsistentIn table v
consistent_in table width v is c other is' =
    let same : width ≡ other = omega arith in
    subst (λ (n : ℕ). IsConsistentWith n v) same c

join_kept : {enterable : Bool} (P : List ℕ → Type 0) (shape : RecordShape) (id : ℕ) (v : RecordPassView) (other : ℕ)
    (u : RecordPassView) → v.phase ≡ Idle → u.phase ≡ Idle →
    Joins (IsKept enterable P shape) id (v ∷ []) other (u ∷ []) (v ∷ u ∷ []) []
join_kept P shape id v other u idle still s r at away there =
    let views' : List (List RecordPassView) = set s.views id (v ∷ u ∷ []) in
    with_views P shape s r r.roots r.one_root (set views' other [])
    (together (KnowsPart P shape.width s.words r.log) r.roots r.log s.views r.passes id v other u at away there)
    (λ l. writer_stays r.log views' other (u ∷ []) there (one_idle u still)
    (writer_stays r.log s.views id (v ∷ []) at (one_idle v idle) (r.writer l) (v ∷ u ∷ [])) [])

-- two passes go on one seat
pub joins_share : (enterable : Bool) (P : List ℕ → Type 0) (shape : RecordShape) (id : ℕ) (me : Seated) (other : ℕ)
    (them : Seated) →
    me ≡ alone (first_of me.0) → them ≡ alone (first_of them.0) →
    (first_of me.0).phase ≡ Idle → (first_of them.0).phase ≡ Idle →
    Joins (IsKept enterable P shape) id me.0 other them.0 (me.0 ++ them.0) []
joins_share enterable P shape id me other them is their idle still =
    subst (λ (p : List RecordPassView × List RecordPassView).
    Joins (IsKept enterable P shape) id p.0 other p.1 (p.0 ++ p.1) [])
    (λ i. (sym (ap (λ (m : Seated). m.0) is) i, sym (ap (λ (m : Seated). m.0) their) i))
    (join_kept P shape id (first_of me.0) other (first_of them.0) idle still)

part_kept : {enterable : Bool} (P : List ℕ → Type 0) (shape : RecordShape) (id : ℕ) (v u : RecordPassView) →
    v.phase ≡ Idle →
    u.phase ≡ Idle → Splits (IsKept enterable P shape) id (v ∷ u ∷ []) (v ∷ []) (u ∷ [])
part_kept P shape id v u idle still s r at =
    with_views P shape s r r.roots r.one_root (set s.views id (v ∷ []) ++ (u ∷ []) ∷ [])
    (parted (KnowsPart P shape.width s.words r.log) r.roots r.log s.views r.passes id v u at)
    (λ l. writer_beside r.log s.views id (v ∷ u ∷ []) at (two_idle v u idle still) (r.writer l)
    (v ∷ []) (u ∷ []))

-- and on two again
pub splits_part : (enterable : Bool) (P : List ℕ → Type 0) (shape : RecordShape) (id : ℕ) (me : Seated) →
    me ≡ both (first_of me.0) (second_of me.0) → (first_of me.0).phase ≡ Idle →
    (second_of me.0).phase ≡ Idle →
    Splits (IsKept enterable P shape) id me.0 (take 1 me.0) (drop 1 me.0)
splits_part enterable P shape id me is idle still =
    subst (λ (vs : List RecordPassView). Splits (IsKept enterable P shape) id vs (take 1 vs) (drop 1 vs))
    (sym (ap (λ (m : Seated). m.0) is))
    (part_kept P shape id (first_of me.0) (second_of me.0) idle still)

-- a load by a seat that holds two
pub allows_meet : (enterable : Bool) (P : List ℕ → Type 0) (shape : RecordShape) (slots id : ℕ) (me : Seated) →
    me ≡ both (first_of me.0) (second_of me.0) → (first_of me.0).phase ≡ Idle →
    (second_of me.0).phase ≡ Idle →
    Allows (IsKept enterable P shape) slots id me 0 (λ n. n) (MeetTells shape (step slots 0 0 0 none) me)
allows_meet enterable P shape slots id me is idle still s r _ at _ =
    let v : RecordPassView = first_of me.0 in
    let u : RecordPassView = second_of me.0 in
    let vs : List RecordPassView = v ∷ u ∷ [] in
    let here : get_elem? s.views id ≡ some vs = at ∙ ap (λ (m : Seated). some m.0) is in
    let v' = knowing v r.log in
    let u' = knowing u r.log in
    let ws : List RecordPassView = v' ∷ u' ∷ [] in
    let first = r.passes.fits id 0 v (vs, here, refl) in
    let second = r.passes.fits id 1 u (vs, here, refl) in
    let same = same_two v u v' u' (record { name = refl; splits = refl })
    (record { name = refl; splits = refl }) in
    let grows = grows_none vs r.log in
    let a : Brings P shape.width s.words r.log v' = record {
      known = begins_all r.log;
      own = first.part.own;
      marks = first.marks;
      knows = first.knows;
    } in
    let b : Brings P shape.width s.words r.log u' = record {
      known = begins_all r.log;
      own = second.part.own;
      marks = second.marks;
      knows = second.knows;
    } in
    let brings = two_of (λ _ w. Brings P shape.width s.words r.log w) v' u' a b in
    let so = consistent_after P shape s r id vs ws here same s.words r.log grows brings
    (λ _ _ _ _ _ h. h) r.legal in (
      ws,
      keeps,
      tt,
      subst (λ (words : List ℕ). IsKept enterable P shape
          record { words = words; homes = s.homes; views = set s.views id ws })
          (sym (set-get_or s.words 0 0))
          (with_views P shape s r r.roots r.one_root (set s.views id ws)
          (passes_after P shape s r id vs ws here same s.words r.log grows brings
          (λ _ _ _ _ _ h. h))
          (λ l. writer_stays r.log s.views id vs here (two_idle v u idle still) (r.writer l) ws)),
      record {
        log = r.log;
        first_begins = first.part.known;
        second_begins = second.part.known;
        after = λ i. (ws, (is i).1);
        apart = λ e.
            let t = (r.passes.apart id 0 id 1 v u (vs, here, refl) (vs, here, refl) e).1 in
            absurd (omega (arith, t));
        first_consistent = so 0 v' refl refl;
        second_consistent = so 1 u' refl refl;
      },
    )

-- a load that makes a seat of its own
pub allows_enter : {enterable : Bool} (P : List ℕ → Type 0) (shape : RecordShape) (slots : ℕ) →
    enterable ≡ true →
    Enters (IsKept enterable P shape) slots 0
    (λ n w. ((w, []) ≡ alone (first_of w)) × HasEntered shape (first_of w))
allows_enter P shape slots may s r _ _ =
    let v : RecordPassView = entering r.roots Idle r.log (get_or s.words 0 0) in
    let part = new_part is_call r.roots Idle r.log (get_or s.words 0 0) r.passes.entries in
    let marks = ap length (new_none is_mark r.roots r.log r.passes.entries) in
    let fits : KnowsPart P shape.width s.words r.log v =
    record { part = part; marks = marks; knows = tt } in (
      v ∷ [],
      with_views P shape s r (r.roots + 1)
          (λ shut. absurd (true≢false (sym may ∙ shut))) (s.views ++ (v ∷ []) ∷ [])
          (comes (KnowsPart P shape.width s.words r.log) r.roots r.log s.views r.passes Idle
          (get_or s.words 0 0) fits)
          (λ l. writer_before r.log s.views (v ∷ []) (r.writer l)),
      (
        refl,
        record {
          root = r.roots;
          word = get_or s.words 0 0;
          view = refl;
          word_is = r.word_is;
          few = r.few;
          new = r.passes.entries;
          consistent = record {
            legal = r.legal;
            own = part.own;
            marks = marks;
            given = part.given;
          };
        },
      ),
    )
