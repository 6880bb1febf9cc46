-- What every step of a seat on a record's words keeps, by what its passes know afterwards.
use Rattle.std.proofs.Common.{◌≡◌, ◌≢◌, ◌⊎◌, ℕ, ◌+◌, ◌<◌, ◌≤◌, true, true≢false, List}
use Rattle.std.proofs.Common.{[], ◌∷◌, length, set, get_or, refl, ap, sym, ◌∙◌, subst}
use Rattle.std.proofs.Common.{⊎_elim, arith, Bool, false}
use mathlib.Core.Option.{some, some-injective}
use mathlib.Core.List.{IsPrefix}
use lib.ListN.{get_elem?}
use lib.Seq.{set-get_or}
use Rattle.atomic_table.specs.Table.{State, Act, keeps, stepped, Valid, carried_after}
use Rattle.atomic_table.proofs.Lists.{set_here}
use Rattle.stamp_threads.specs.declared.record_view.RecordShape.{RecordShape}
use Rattle.stamp_threads.specs.declared.record_view.RecordPhase.{RecordPhase}
use Rattle.stamp_threads.specs.declared.record_view.RecordPhase.TheVariants.{Idle, Writing, Loading}
use Rattle.stamp_threads.specs.PassName.{HasGivenAll}
use Rattle.stamp_threads.specs.PassView.{made_by}
use Rattle.stamp_threads.specs.inner.PassView.{knowing, finding}
use Rattle.stamp_threads.specs.Seats.{alone}
use Rattle.stamp_threads.specs.inner.Seats.{StandsAt, AreSeated}
use Rattle.stamp_threads.specs.RecordLog.{RecordLog, IsLegalLog, puts, puts_in, is_locked}
use Rattle.stamp_threads.specs.RecordLog.{marker_in, content_in, is_call, is_mark, marks_of}
use Rattle.stamp_threads.specs.RecordPass.{RecordPassView, IsConsistentWith, LeavesWord, marks_ahead, first_of}
use Rattle.stamp_threads.specs.inner.RecordPass.{Seated}
use Rattle.stamp_threads.specs.inner.RecordRule.{Knows, KnowsPart, IsWriting, HasWriter, IsKept, CameToKnow}
use Rattle.stamp_threads.proofs.Beginnings.{begins_all}
use Rattle.stamp_threads.proofs.ListElements.{in_range, only_one}
use Rattle.stamp_threads.proofs.MadeBy.{Grows, grows_none}
use Rattle.stamp_threads.proofs.SeatSteps.{Same, same_one, stands_on, apart_from, own_given}
use Rattle.stamp_threads.proofs.SeatSteps.{other_part}
use Rattle.stamp_threads.proofs.SeatMoves.{stands_else}

-- what a pass of the seat that makes the step knows afterwards
pub record Brings (P : List ℕ → Type 0) (width : ℕ) (table_words : List ℕ) (log : RecordLog)
    (w : RecordPassView) : Type 0 where
  pub known : IsPrefix w.known log
  pub own : made_by is_call w.name log ≡ w.own
  pub marks : marks_of w.name log ≡ puts_in w.own + marks_ahead w.phase
  pub knows : Knows P width table_words log w.name w.phase

-- every other pass knows what it knows still
abbrev pub OthersKnow : (List ℕ → Type 0) → RecordShape → State (Unit {0}) (List RecordPassView) → RecordLog → ℕ →
    List ℕ → RecordLog → Type 0
OthersKnow P shape s log id table_words' log' = (i k : ℕ) (u : RecordPassView) → i ≢ id →
    StandsAt s.views i k u → Knows P shape.width s.words log u.name u.phase →
    Knows P shape.width table_words' log' u.name u.phase

-- the writer stands at its index in other views, too
pub writer_in : (log : RecordLog) (views views' : List (List RecordPassView)) (t : HasWriter log views) →
    StandsAt views' t.seat t.index t.writer → HasWriter log views'
writer_in log views views' t stands = record {
  seat = t.seat;
  index = t.index;
  writer = t.writer;
  stands = stands;
  writes = t.writes;
  marker = t.marker;
}

-- the views alone change, and maybe the number of roots that were taken
pub with_views : {enterable : Bool} (P : List ℕ → Type 0) (shape : RecordShape)
    (s : State (Unit {0}) (List RecordPassView)) (r : IsKept enterable P shape s) (roots : ℕ)
    (one_root : enterable ≡ false → roots ≡ 1) (views : List (List RecordPassView)) →
    AreSeated (KnowsPart P shape.width s.words r.log) roots r.log views →
    (is_locked r.log ≡ true → HasWriter r.log views) →
    IsKept enterable P shape record { words = s.words; homes = s.homes; views = views }
with_views P shape s r roots one_root views passes writer = record {
  log = r.log;
  roots = roots;
  one_root = one_root;
  legal = r.legal;
  wide = r.wide;
  word_is = r.word_is;
  few = r.few;
  fewer = r.fewer;
  rests = r.rests;
  long = r.long;
  rule = r.rule;
  passes = passes;
  writer = writer;
}

module _ {enterable : Bool} (P : List ℕ → Type 0) (shape : RecordShape) (s : State (Unit {0}) (List RecordPassView))
    (r : IsKept enterable P shape s)
    (id : ℕ) (vs ws : List RecordPassView) (at : get_elem? s.views id ≡ some vs)
    (same : Same vs ws) (table_words' : List ℕ) (log' : RecordLog) (grows : Grows vs r.log log')
    (brings : (k : ℕ) (w : RecordPassView) → get_elem? ws k ≡ some w →
    Brings P shape.width table_words' log' w) (others : OthersKnow P shape s r.log id table_words' log') where
  abbrev Now : RecordPassView → Type 0
  Now = KnowsPart P shape.width s.words r.log

  own_fits : (k : ℕ) (w : RecordPassView) → get_elem? ws k ≡ some w →
      KnowsPart P shape.width table_words' log' w
  own_fits k w h = let b = brings k w h in
      record {
        part = record {
          known = b.known;
          own = b.own;
          given = own_given Now r.roots r.log s.views r.passes id vs ws at same is_call log' grows
              (λ v f. f.part) k w h;
        };
        marks = b.marks;
        knows = b.knows;
      }

  other_fits : (i k : ℕ) (u : RecordPassView) → i ≢ id → StandsAt s.views i k u →
      KnowsPart P shape.width table_words' log' u
  other_fits i k u away st =
      let f = r.passes.fits i k u st in
      let apart = apart_from Now r.roots r.log s.views r.passes id vs ws at same i k u away st in
      record {
        part = other_part Now r.roots r.log s.views r.passes id vs ws at same is_call log' grows
            (λ v g. g.part) i k u away st;
        marks = ap length (grows.others is_mark u.name apart) ∙ f.marks;
        knows = others i k u away st f.knows;
      }

  pub passes_after : AreSeated (KnowsPart P shape.width table_words' log') r.roots log' (set s.views id ws)
  passes_after = stands_on Now r.roots r.log s.views r.passes id vs ws at same
      (KnowsPart P shape.width table_words' log') log' grows own_fits other_fits

  pub consistent_after : IsLegalLog shape.width log' → (k : ℕ) (w : RecordPassView) →
      get_elem? ws k ≡ some w → w.known ≡ log' → IsConsistentWith shape.width w
  consistent_after legal k w h e =
      let f = own_fits k w h in
      record {
        legal = subst (IsLegalLog shape.width) (sym e) legal;
        own = ap (made_by is_call w.name) e ∙ f.part.own;
        marks = ap (marks_of w.name) e ∙ f.marks;
        given = subst (HasGivenAll w.name w.splits) (sym e) f.part.given;
      }

module _ {enterable : Bool} (P : List ℕ → Type 0) (shape : RecordShape) (s : State (Unit {0}) (List RecordPassView))
    (r : IsKept enterable P shape s)
    (id : ℕ) (v : RecordPassView) (here : get_elem? s.views id ≡ some (v ∷ [])) where
  pub stands_here : StandsAt s.views id 0 v
  stands_here = (v ∷ [], here, refl)

  pub fits_here : KnowsPart P shape.width s.words r.log v
  fits_here = r.passes.fits id 0 v stands_here

  pub leaves_now : LeavesWord shape v (get_or s.words 0 0) r.log
  leaves_now = record {
    begins = fits_here.part.known;
    legal = r.legal;
    word_is = r.word_is;
    few = r.few;
  }

  -- a pass on this seat is v
  pub is_here : (i k : ℕ) (u : RecordPassView) → StandsAt s.views i k u → i ≡ id → u ≡ v
  is_here i k u st e =
      let row : st.0 ≡ v ∷ [] =
      some-injective _ _ (sym st.1 ∙ (ap (get_elem? s.views) e ∙ here)) in
      only_one (λ _ w. w ≡ v) v refl k u
      (subst (λ (l : List RecordPassView). get_elem? l k ≡ some u) row st.2)

  -- no other pass made the mark that v made
  pub not_other : {A : Type 0} (i k : ℕ) (u : RecordPassView) → i ≢ id → StandsAt s.views i k u →
      marker_in r.log ≡ u.name → marker_in r.log ≡ v.name → A
  not_other i k u away st a b =
      absurd (away (r.passes.apart i k id 0 u v st stands_here (sym a ∙ b)).0)

  module _ (quiet : IsWriting v.phase → ⊥) where
    pub away_from : (i k : ℕ) (u : RecordPassView) → StandsAt s.views i k u → IsWriting u.phase →
        i ≢ id
    away_from i k u st writes e =
        quiet (subst IsWriting (ap (λ (w : RecordPassView). w.phase) (is_here i k u st e)) writes)

    -- a pass that is not writing did not make the mark that locks
    pub others_mark : is_locked r.log ≡ true → marker_in r.log ≢ v.name
    others_mark l m =
        let t = r.writer l in
        away_from t.seat t.index t.writer t.stands t.writes
        (r.passes.apart t.seat t.index id 0 t.writer v t.stands stands_here
        (sym t.marker ∙ m)).0

    -- the writer stands where it stood
    pub writer_else : (ws : List RecordPassView) → is_locked r.log ≡ true →
        HasWriter r.log (set s.views id ws)
    writer_else ws l =
        let t = r.writer l in
        writer_in r.log s.views (set s.views id ws) t
        (stands_else s.views id ws t.seat t.index t.writer
        (away_from t.seat t.index t.writer t.stands t.writes) t.stands)

  module _ (w : RecordPassView) (name : w.name ≡ v.name) (splits : w.splits ≡ v.splits)
      (table_words' : List ℕ) (log' : RecordLog) (grows : Grows (v ∷ []) r.log log')
      (brings : Brings P shape.width table_words' log' w)
      (others : OthersKnow P shape s r.log id table_words' log') where
    pub one_after : AreSeated (KnowsPart P shape.width table_words' log') r.roots log'
        (set s.views id (w ∷ []))
    one_after = passes_after P shape s r id (v ∷ []) (w ∷ []) here (same_one v w name splits) table_words'
        log' grows (only_one (λ _ u. Brings P shape.width table_words' log' u) w brings) others

    pub one_consistent : IsLegalLog shape.width log' → w.known ≡ log' →
        IsConsistentWith shape.width w
    one_consistent legal = consistent_after P shape s r id (v ∷ []) (w ∷ []) here
        (same_one v w name splits) table_words' log' grows
        (only_one (λ _ u. Brings P shape.width table_words' log' u) w brings) others legal 0 w refl

    pub one_stands : StandsAt (set s.views id (w ∷ [])) id 0 w
    one_stands =
        (w ∷ [], set_here s.views id (w ∷ []) (in_range s.views (v ∷ []) id here), refl)

  -- no word and no entry changes
  module _ (quiet : IsWriting v.phase → ⊥) (w : RecordPassView) (name : w.name ≡ v.name)
      (splits : w.splits ≡ v.splits) (brings : Brings P shape.width s.words r.log w) where
    pub only_views : IsKept enterable P shape record {
      words = s.words;
      homes = s.homes;
      views = set s.views id (w ∷ []);
    }
    only_views = with_views P shape s r r.roots r.one_root (set s.views id (w ∷ []))
        (one_after w name splits s.words r.log (grows_none (v ∷ []) r.log) brings (λ _ _ _ _ _ h. h))
        (writer_else quiet (w ∷ []))

    pub only_consistent : w.known ≡ r.log → IsConsistentWith shape.width w
    only_consistent e = one_consistent w name splits s.words r.log (grows_none (v ∷ []) r.log)
        brings (λ _ _ _ _ _ h. h) r.legal e

  pub knowing_brings : (word : ℕ) →
      Brings P shape.width s.words r.log (knowing (finding v word) r.log)
  knowing_brings word =
      let f = fits_here in
      record {
        known = begins_all r.log;
        own = f.part.own;
        marks = f.marks;
        knows = f.knows;
      }

pub locked_by : (P : List ℕ → Type 0) (width : ℕ) (table_words : List ℕ) (log : RecordLog) (name : List ℕ)
    (phase : RecordPhase) → IsWriting phase → Knows P width table_words log name phase →
    (is_locked log ≡ true) × (marker_in log ≡ name)
locked_by P width table_words log name Idle w h = absurd w
locked_by P width table_words log name (Writing puts_before words stored) w h = (h.locked, h.marker)
locked_by P width table_words log name (Loading puts_before words) w h = absurd w

-- a pass that doesn't write knows nothing of a locked record, nor of later versions
pub quiet_knows : (P : List ℕ → Type 0) (width : ℕ) (table_words table_words' : List ℕ) (log log' : RecordLog)
    (name : List ℕ) (phase : RecordPhase) → puts log ≤ puts log' →
    (is_locked log' ≡ true) ⊎ (puts log < puts log') → (IsWriting phase → ⊥) →
    Knows P width table_words log name phase → Knows P width table_words' log' name phase
quiet_knows P width table_words table_words' log log' name Idle le why quiet h = tt
quiet_knows P width table_words table_words' log log' name (Writing puts_before words stored) le why quiet h =
    absurd (quiet tt)
quiet_knows P width table_words table_words' log log' name (Loading puts_before words) le why quiet h =
    let a = h.before in
    record {
      before = omega arith;
      few = h.few;
      stand = λ f e j l. absurd (⊎_elim (λ (t : is_locked log' ≡ true). true≢false (sym t ∙ f))
          (λ (t : puts log < puts log'). omega arith) why);
    }

-- an event that changes neither lock nor content
pub same_knows : (P : List ℕ → Type 0) (width : ℕ) (table_words : List ℕ) (log log' : RecordLog) (name : List ℕ)
    (phase : RecordPhase) → puts log' ≡ puts log → is_locked log' ≡ is_locked log →
    marker_in log' ≡ marker_in log → content_in width log' ≡ content_in width log →
    Knows P width table_words log name phase → Knows P width table_words log' name phase
same_knows P width table_words log log' name Idle p l m c h = tt
same_knows P width table_words log log' name (Writing puts_before words stored) p l m c h = record {
  locked = l ∙ h.locked;
  puts_are = p ∙ h.puts_are;
  marker = m ∙ h.marker;
  long = h.long;
  rule = h.rule;
  few = h.few;
  stand = h.stand;
}
same_knows P width table_words log log' name (Loading puts_before words) p l m c h =
    let a = h.before in
    record {
      before = omega arith;
      few = h.few;
      stand = λ f e j b. h.stand (sym l ∙ f) (sym p ∙ e) j b ∙
          ap (λ (d : List ℕ). get_or d j 0) (sym c);
    }

pub idle_quiet : (phase : RecordPhase) → phase ≡ Idle → IsWriting phase → ⊥
idle_quiet phase e w = subst IsWriting e w

-- the rule after a step of this seat, whose pass is w then, on these words
abbrev pub KeptBy : Bool → (List ℕ → Type 0) → RecordShape → State (Unit {0}) (List RecordPassView) → ℕ →
    RecordPassView →
    List ℕ → Type 0
KeptBy enterable P shape s id w words =
    IsKept enterable P shape record { words = words; homes = s.homes; views = set s.views id (w ∷ []) }

-- a step of this seat leaves this word at the index, and the seat has learned this
abbrev pub Leaves : Bool → (List ℕ → Type 0) → RecordShape → State (Unit {0}) (List RecordPassView) → ℕ →
    Seated → ℕ → ℕ → (Seated → Type 0) → Type 0
Leaves enterable P shape s id me index word Learned = (w : List RecordPassView) × (a : Act (Unit {0})) ×
    Valid s.homes me.1 a × IsKept enterable P shape (stepped s index word id me.1 w a) ×
    Learned (w, carried_after me.1 a)

-- a step that loads a word, and leaves the pass w there
pub load_leaves : {enterable : Bool} (P : List ℕ → Type 0) (shape : RecordShape)
    (s : State (Unit {0}) (List RecordPassView)) (id : ℕ) (me : Seated) (index : ℕ) (w : RecordPassView)
    (Learned : Seated → Type 0) → KeptBy enterable P shape s id w s.words → Learned (w ∷ [], me.1) →
    Leaves enterable P shape s id me index (get_or s.words index 0) Learned
load_leaves P shape s id me index w Learned kept learned =
    (w ∷ [], keeps, tt, subst (KeptBy _ P shape s id w) (sym (set-get_or s.words index 0)) kept, learned)

-- a load of the lock word by a pass that isn't writing: it knows the whole history then, and is the
-- pass that this brings
pub load_knows : {enterable : Bool} (P : List ℕ → Type 0) (shape : RecordShape)
    (s : State (Unit {0}) (List RecordPassView)) (r : IsKept enterable P shape s) (id : ℕ)
    (me : Seated) → me ≡ alone (first_of me.0) → get_elem? s.views id ≡ some (first_of me.0 ∷ []) →
    (IsWriting (first_of me.0).phase → ⊥) → (after_it : RecordLog → RecordPassView) →
    (after_it r.log).name ≡ (first_of me.0).name → (after_it r.log).splits ≡ (first_of me.0).splits →
    (after_it r.log).known ≡ r.log → Brings P shape.width s.words r.log (after_it r.log) →
    Leaves enterable P shape s id me 0 (get_or s.words 0 0)
    (λ m. CameToKnow shape (first_of me.0) (get_or s.words 0 0) m after_it)
load_knows P shape s r id me is here quiet after_it name splits known brings =
    let v : RecordPassView = first_of me.0 in
    let w : RecordPassView = after_it r.log in
    load_leaves P shape s id me 0 w (λ m. CameToKnow shape v (get_or s.words 0 0) m after_it)
    (only_views P shape s r id v here quiet w name splits brings) (record {
      log = r.log;
      left = leaves_now P shape s r id v here;
      after = λ i. (w ∷ [], (is i).1);
      others = others_mark P shape s r id v here quiet;
      consistent = only_consistent P shape s r id v here quiet w name splits brings known;
    })
