-- An exchange keeps the rule, and tells what it is to tell: where it finds the word that it looked for there is an
-- act for each thing that the call may do, and else it does what a load does.
use Rattle.std.proofs.Common.{◌≡◌, ◌≢◌, ℕ, suc, ◌+◌, ◌-◌, ◌==◌, eqb, List, [], ◌∷◌, ◌++◌, refl, ap, sym, ◌∙◌, subst}
use Rattle.std.proofs.Common.{arith, Bool, true, false, MatchBool, Option, Some}
use Rattle.std.proofs.lemmas.Bool.{eqb-true}
use Rattle.std.proofs.lemmas.List.{length_push}
use Rattle.std.specs.Prelude.{IsTrue, count_by}
use mathlib.Core.Option.{some}
use lib.ListN.{get_elem?}
use prog.Atomic.{either}
use Rattle.lent_table.specs.Table.{State, Home, lent, Act, stays, comes, goes, takes, gives, grows, shrinks, Valid}
use Rattle.lent_table.specs.Table.{stepped, step, home_after, hold_after, Allows}
use Rattle.stamp_core.specs.Call.{is_lock_call}
use Rattle.stamp_core.specs.Limits.{Bounds, AreInRange}
use Rattle.stamp_core.specs.LockEvent.{LockEvent, Counts, is_write_released}
use Rattle.stamp_core.specs.LockEvent.LockEvent.{WriteAcquired, WriteReleased, ReadAcquired, ReadReleased}
use Rattle.stamp_core.specs.Decision.{Changes, Moves}
use Rattle.stamp_core.specs.Decoded.{after_events}
use Rattle.stamp_core.specs.Transition.{Transition}
use Rattle.stamp_core.specs.Word.{word_at}
use Rattle.stamp_core.specs.declared.call.Call.{Call}
use Rattle.stamp_core.specs.declared.reply.Reply.{Reply}
use Rattle.stamp_machines.specs.LockNumber.{RepresentsAt}
use Rattle.stamp_threads.specs.inner.PassView.{finding}
use Rattle.stamp_threads.specs.inner.LockRule.{making}
use Rattle.stamp_threads.specs.LockLog.{events_after, transition_after}
use Rattle.stamp_threads.proofs.Beginnings.{begins_all, begins_more}
use Rattle.stamped_value.specs.declared.view.ValueView.{ValueView}
use Rattle.stamped_value.specs.declared.view.Held.{Held}
use Rattle.stamped_value.specs.declared.view.Held.TheVariants.{Free, Reading, Writing}
use Rattle.stamped_value.specs.Held.{HasHold, MatchesAt, is_writing}
use Rattle.stamped_value.specs.inner.Held.{MayCall}
use Rattle.stamped_value.specs.Values.{IsLastOf}
use Rattle.stamped_value.specs.ValueMade.{Seen, Does, DoesBy}
use Rattle.stamped_value.specs.inner.VersionRule.{IsKept, HomeIs, WonTells, LoadTells, ExchangeTells}
use Rattle.stamped_value.proofs.Counted.{two_counted}
use Rattle.stamped_value.proofs.Going.{Goes}
use Rattle.stamped_value.proofs.Goes.{row_goes}
use Rattle.stamped_value.proofs.Homes.{is_lent, is_away, lent_again, last_pushed, one_last}
use Rattle.stamped_value.proofs.Keeping.{LeavesValues, counts_now, within_now, view_then, keeps}
use Rattle.stamped_value.proofs.Looking.{load_leaves}
use Rattle.stamped_value.proofs.Passing.{part_now}

reading_not_free : (h : Held) (n : ℕ) → h ≡ Reading n → h ≢ Free
reading_not_free h n is free = cc

module _ {T : Type 0} {enterable : Bool} {first : T} (limits : Bounds) (s : State T (ValueView T))
    (r : IsKept enterable limits first s) (id : ℕ)
    (me : Seen T) (at : get_elem? s.views id ≡ some me.0) where
  abbrev now : Counts
  now = counts_now limits s r

  -- beside a writer no other seat holds a mode
  none_beside : (n : ℕ) → me.0.held ≡ Writing n → now.readers ≡ 0 → (k : ℕ) → id ≢ k → (u : ValueView T) →
      get_elem? s.views k ≡ some u → (h : Held) → u.held ≡ h → MatchesAt limits now h → h ≢ Free → ⊥
  none_beside n writes none k other u here Free is m holds = holds refl
  none_beside n writes none k other u here (Reading x) is m holds = let some = m.1 in omega arith
  none_beside n writes none k other u here (Writing x) is m holds =
      let two = two_counted (λ (v : ValueView T). is_writing v.held) s.views id k me.0 u at here other
      (ap is_writing writes) (ap is_writing is) in
      let one = (within_now limits s r).one_writer in
      let n = r.writers_are in
      omega arith

  same_values : (appended : List LockEvent) (home : Home T) → count_by is_write_released appended ≡ 0 →
      HomeIs (after_events now appended) r.values home → LeavesValues limits s r id appended r.values home
  same_values appended home none h = record {
    begins = begins_all r.values;
    more = omega arith;
    home_is = h;
    known = λ k u other here holds. refl;
  }

  one_more : (appended : List LockEvent) (home : Home T) (y : T) (n : ℕ) → count_by is_write_released appended ≡ 1 →
      me.0.held ≡ Writing n → now.readers ≡ 0 → HomeIs (after_events now appended) (r.values ++ y ∷ []) home →
      LeavesValues limits s r id appended (r.values ++ y ∷ []) home
  one_more appended home y n one writes none h = record {
    begins = begins_more r.values (y ∷ []);
    more = omega (arith, length_push r.values y);
    home_is = h;
    known = λ k u other here holds. absurd (none_beside n writes none k (λ e. other (sym e)) u here u.held refl
        (r.fits k u here).matches holds);
  }

  module _ (range : AreInRange limits) (hold : HasHold me.0.held me.0.values me.1) (call : Call)
      (lock : IsTrue (is_lock_call call)) (new : ℕ) where
    -- the seat has a view and an act that keep the rule, and is told of its win
    abbrev pub Wins : Type 0
    Wins = (w : ValueView T) × (a : Act T) × Valid s.home me.1 a × IsKept enterable limits first (stepped s new id w a)
        × WonTells limits call me s.word (w, hold_after me.1 a)

    -- the call appends these events and is answered this, and the new word represents it
    record MovesBy (appended : List LockEvent) (reply : Reply) : Type 0 where
      is : transition_after limits r.log call ≡ Some (record { appended = appended; reply = reply })
      goes : Goes limits now me.0.held appended reply
      represents : RepresentsAt limits new (events_after limits r.log ++ appended)

    has_then : (h : Held) → me.0.held ≡ h → HasHold h me.0.values me.1
    has_then h is = subst (λ (g : Held). HasHold g me.0.values me.1) is hold

    module _ (appended : List LockEvent) (reply : Reply) (m : MovesBy appended reply) (values : List T) (a : Act T)
        (valid : Valid s.home me.1 a) (leaves : LeavesValues limits s r id appended values (home_after s.home a)) where
      abbrev seen_then : Seen T
      seen_then = (
        view_then limits s r range id me.0 at call lock appended reply m.is m.goes values (home_after s.home a) leaves,
        hold_after me.1 a,
      )

      wins_by : Does appended reply me r.values seen_then → Wins
      wins_by does =
          let kept = keeps limits s r range id me.0 at call lock appended reply m.is m.goes values
          (home_after s.home a) leaves new m.represents in
          let own = r.fits id me.0 at in (
            seen_then.0,
            a,
            valid,
            kept.0,
            record {
              pass = record {
                log = r.log;
                left = record {
                  begins = (part_now limits r.log r.roots s.views r.legal r.passes id me.0 at).known;
                  legal = r.legal;
                  represents = r.represents;
                };
                after = sym (ap (λ (o : Option Transition). making o call (finding me.0.pass s.word) r.log) m.is);
                consistent = kept.1;
              };
              matches = own.matches;
              values = r.values;
              begins = own.begins;
              are = r.are;
              does = subst (λ (o : Option Transition). DoesBy o me r.values seen_then) (sym m.is) does;
            },
          )

    writer_comes : (reply : Reply) → MovesBy (WriteAcquired ∷ []) reply → Wins
    writer_comes reply m =
        let g = m.goes in
        let h = is_lent now r.values s.home g.3 r.home in
        wins_by (WriteAcquired ∷ []) reply m r.values (takes h.0)
        (h.2 ∙ ap (λ (n : ℕ). lent n h.0) g.4, has_then Free g.2)
        (same_values (WriteAcquired ∷ []) _ refl refl) (rw g.1 (h.0, h.1, (refl, refl, refl)))

    reader_comes : (reply : Reply) → MovesBy (ReadAcquired ∷ []) reply → Wins
    reader_comes reply m =
        let g = m.goes in
        let h = is_lent now r.values s.home g.3 r.home in
        let more : suc now.readers ≡ now.readers + 1 = omega arith in
        wins_by (ReadAcquired ∷ []) reply m r.values (comes now.readers h.0) (h.2, has_then Free g.2, g.4)
        (same_values (ReadAcquired ∷ []) _ refl (lent_again (after_events now (ReadAcquired ∷ [])) r.values _ h.0 g.3
        h.1 (ap (λ (n : ℕ). lent n h.0) more))) (rw g.1 (h.0, h.1, (refl, refl, refl)))

    writer_goes : (reply : Reply) → MovesBy (WriteReleased ∷ []) reply → Wins
    writer_goes reply m =
        let g = m.goes in
        let y = has_then (Writing g.0) g.1 in
        wins_by (WriteReleased ∷ []) reply m (r.values ++ y.0 ∷ []) (gives y.0)
        (is_away now r.values s.home g.2 r.home, y.1)
        (one_more (WriteReleased ∷ []) _ y.0 g.0 refl g.1 g.3
        (y.0, last_pushed r.values y.0, ap (λ (n : ℕ). lent n y.0) (sym g.3))) (y.0, y.1, (refl, refl, refl))

    reader_goes : (reply : Reply) → MovesBy (ReadReleased ∷ []) reply → Wins
    reader_goes reply m =
        let g = m.goes in
        let h = is_lent now r.values s.home g.2 r.home in
        let y = has_then (Reading g.0) g.1 in
        let less : now.readers ≡ suc (now.readers - 1) = omega arith in
        wins_by (ReadReleased ∷ []) reply m r.values (goes (now.readers - 1) h.0)
        (h.2 ∙ ap (λ (n : ℕ). lent n h.0) less, omega arith, (y.0, y.1))
        (same_values (ReadReleased ∷ []) _ refl
        (lent_again (after_events now (ReadReleased ∷ [])) r.values _ h.0 g.2 h.1 refl)) (refl, refl, refl)

    -- the value that the seat reads is the last one
    reads_last : (n : ℕ) → me.0.held ≡ Reading n → (y : T) → IsLastOf me.0.values y → IsLastOf r.values y
    reads_last n is y last = subst (λ (l : List T). IsLastOf l y)
        ((r.fits id me.0 at).all (reading_not_free me.0.held n is)) last

    reader_to_writer : (reply : Reply) → MovesBy (ReadReleased ∷ WriteAcquired ∷ []) reply → Wins
    reader_to_writer reply m =
        let g = m.goes in
        let h = is_lent now r.values s.home g.4 r.home in
        let y = has_then (Reading g.0) g.3 in
        let last = reads_last g.0 g.3 y.0 y.2 in
        wins_by (ReadReleased ∷ WriteAcquired ∷ []) reply m r.values (grows y.0) (
          h.2 ∙ (ap (λ (n : ℕ). lent n h.0) g.5 ∙ ap (lent 1) (one_last r.values h.0 y.0 h.1 last)),
          (y.0, y.1),
        ) (same_values (ReadReleased ∷ WriteAcquired ∷ []) _ refl refl)
        (rw g.2 (y.0, last, y.1, (refl, refl, refl)))

    writer_to_reader : (reply : Reply) → MovesBy (WriteReleased ∷ ReadAcquired ∷ []) reply → Wins
    writer_to_reader reply m =
        let g = m.goes in
        let y = has_then (Writing g.0) g.3 in
        let one : 1 ≡ now.readers + 1 = omega arith in
        wins_by (WriteReleased ∷ ReadAcquired ∷ []) reply m (r.values ++ y.0 ∷ []) (shrinks y.0)
        (is_away now r.values s.home g.4 r.home, y.1)
        (one_more (WriteReleased ∷ ReadAcquired ∷ []) _ y.0 g.0 refl g.3 g.5
        (y.0, last_pushed r.values y.0, ap (λ (n : ℕ). lent n y.0) one)) (rw g.2 (y.0, y.1, (refl, refl, refl)))

    wins_as : (appended : List LockEvent) (reply : Reply) → appended ≢ [] → MovesBy appended reply → Wins
    wins_as [] reply ne m = absurd (ne refl)
    wins_as (WriteAcquired ∷ []) reply ne m = writer_comes reply m
    wins_as (ReadAcquired ∷ []) reply ne m = reader_comes reply m
    wins_as (WriteReleased ∷ []) reply ne m = writer_goes reply m
    wins_as (ReadReleased ∷ []) reply ne m = reader_goes reply m
    wins_as (ReadReleased ∷ WriteAcquired ∷ []) reply ne m = reader_to_writer reply m
    wins_as (WriteReleased ∷ ReadAcquired ∷ []) reply ne m = writer_to_reader reply m
    wins_as _ reply ne m = absurd m.goes

    pub wins : MayCall call me.0.held → (old : ℕ) (reply : Reply) → s.word ≡ old →
        Changes limits (word_at limits old) call (word_at limits new) reply → Wins
    wins may old reply hit changes =
        let m : Moves limits (events_after limits r.log) call (word_at limits old) (word_at limits new) reply =
        changes (events_after limits r.log)
        (subst (λ (n : ℕ). RepresentsAt limits n (events_after limits r.log)) hit r.represents) in
        let t : Transition = record { appended = m.appended; reply = reply } in
        wins_as m.appended reply m.some (record {
          is = m.transition_is;
          goes = row_goes limits now range (within_now limits s r) call me.0.held may (r.fits id me.0 at).matches t
              m.transition_is;
          represents = m.represented;
        })

    -- by whether the word found is the old one
    exchange_at : MayCall call me.0.held → (old : ℕ) (reply : Reply) →
        Changes limits (word_at limits old) call (word_at limits new) reply → (b : Bool) → eqb s.word old ≡ b →
        (w : ValueView T) × (a : Act T) × Valid s.home me.1 a
        × IsKept enterable limits first (stepped s (either b new s.word) id w a)
        × MatchBool b (WonTells limits call me s.word (w, hold_after me.1 a))
        (LoadTells limits call me s.word (w, hold_after me.1 a))
    exchange_at may old reply changes true e = wins may old reply (eqb-true s.word old e) changes
    exchange_at may old reply changes false e =
        let t = load_leaves limits s r id me at call lock in (t.0, stays, tt, t.1, t.2)

pub allows_exchange : {T : Type 0} {enterable : Bool} {first : T} (limits : Bounds) (call : Call) (id : ℕ)
    (me : Seen T) (old new : ℕ) (reply : Reply) → AreInRange limits → IsTrue (is_lock_call call) → MayCall call me.0.held →
    HasHold me.0.held me.0.values me.1 → Changes limits (word_at limits old) call (word_at limits new) reply →
    Allows (IsKept enterable limits first) id me (λ n. either (n == old) new n) (ExchangeTells limits call (step old new) me)
allows_exchange limits call id me old new reply range lock may hold changes s f =
    exchange_at limits s f.rule id me f.view range hold call lock new may old reply changes (eqb s.word old) refl
