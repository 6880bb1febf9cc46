-- A call of a seat that changes who holds the lock keeps the rule, where it leaves the value as the counts say.
use Rattle.std.proofs.Common.{Bool, ◌≡◌, ◌≢◌, ℕ, ◌+◌, List, [], ◌∷◌, ◌++◌, length, set, refl, ap, sym, ◌∙◌, subst}
use Rattle.std.proofs.Common.{arith, Option, Some}
use Rattle.std.specs.Prelude.{IsTrue, count_by}
use mathlib.Core.Option.{some}
use mathlib.Core.List.{IsPrefix}
use lib.ListN.{get_elem?}
use Rattle.lent_table.specs.Table.{State, Home}
use Rattle.stamp_core.specs.Call.{is_lock_call}
use Rattle.stamp_core.specs.Limits.{Bounds, AreInRange}
use Rattle.stamp_core.specs.LockEvent.{LockEvent, Counts, counts, is_write_released}
use Rattle.stamp_core.specs.LockEvent.LockEvent.{WriteAcquired, WriteReleased, ReadAcquired, ReadReleased}
use Rattle.stamp_core.specs.IsWellFormed.{CountsAreWithin}
use Rattle.stamp_core.specs.Decoded.{after_events}
use Rattle.stamp_core.specs.History.{appended_by}
use Rattle.stamp_core.specs.Transition.{Transition}
use Rattle.stamp_core.specs.declared.call.Call.{Call}
use Rattle.stamp_core.specs.declared.reply.Reply.{Reply}
use Rattle.stamp_core.proofs.WellFormedPush.{obeys_now}
use Rattle.stamp_core.proofs.StampValidity.{transition_counts}
use Rattle.stamp_machines.specs.LockNumber.{RepresentsAt}
use Rattle.stamp_threads.specs.PassView.{entry}
use Rattle.stamp_threads.specs.inner.PassView.{adding, finding}
use Rattle.stamp_threads.specs.LockLog.{LockLog, events_after, transition_after}
use Rattle.stamp_threads.specs.LockPass.{IsConsistentWith}
use Rattle.stamp_threads.proofs.Beginnings.{begins_all, begins_further}
use Rattle.stamp_threads.proofs.LockLogs.{legal_longer, events_longer, represents_changed}
use Rattle.stamped_value.specs.declared.view.ValueView.{ValueView}
use Rattle.stamped_value.specs.declared.view.Held.{Held}
use Rattle.stamped_value.specs.declared.view.Held.TheVariants.{Free}
use Rattle.stamped_value.specs.Held.{MatchesAt, is_writing}
use Rattle.stamped_value.specs.inner.Held.{is_reading}
use Rattle.stamped_value.specs.Values.{HasValues}
use Rattle.stamped_value.specs.inner.VersionRule.{IsKept, Fits, HomeIs}
use Rattle.stamped_value.proofs.Counted.{count_by-append, two_counted}
use Rattle.stamped_value.proofs.Going.{Goes, held_after}
use Rattle.stamped_value.proofs.Others.{others_match}
use Rattle.stamped_value.proofs.HeldCounts.{counted_still}
use Rattle.stamped_value.proofs.Passing.{makes_call}
use Rattle.stamped_value.proofs.Seats.{after_one}

-- what the seat itself holds then matches
own_matches : (limits : Bounds) (c : Counts) (h : Held) → MatchesAt limits c h → (appended : List LockEvent)
    (reply : Reply) → Goes limits c h appended reply →
    MatchesAt limits (after_events c appended) (held_after appended reply h)
own_matches limits c h m [] reply goes = m
own_matches limits c h m (WriteAcquired ∷ []) reply goes = rw goes.1 goes.5
own_matches limits c h m (ReadAcquired ∷ []) reply goes = rw goes.1 goes.5
own_matches limits c h m (WriteReleased ∷ []) reply goes = tt
own_matches limits c h m (ReadReleased ∷ []) reply goes = tt
own_matches limits c h m (ReadReleased ∷ WriteAcquired ∷ []) reply goes = rw goes.2 goes.6
own_matches limits c h m (WriteReleased ∷ ReadAcquired ∷ []) reply goes = rw goes.2 goes.6
own_matches limits c h m _ reply goes = absurd goes

module _ {T : Type 0} {enterable : Bool} {first : T} (limits : Bounds) (s : State T (ValueView T))
    (r : IsKept enterable limits first s) where
  abbrev pub counts_now : Counts
  counts_now = counts (events_after limits r.log)

  pub within_now : CountsAreWithin limits counts_now
  within_now = (obeys_now limits (events_after limits r.log) r.represents.well_formed).within

  -- What the seat id leaves by these events: the values go on by one for each release of write mode, and the value is
  -- where the counts say. Who else holds a mode knows them still
  pub record LeavesValues (id : ℕ) (appended : List LockEvent) (values : List T) (home : Home T) : Type 0 where
    pub begins : IsPrefix r.values values
    pub more : length values ≡ length r.values + count_by is_write_released appended
    pub home_is : HomeIs (after_events counts_now appended) values home
    pub known : (k : ℕ) (u : ValueView T) → k ≢ id → get_elem? s.views k ≡ some u → u.held ≢ Free → values ≡ r.values

  module _ (range : AreInRange limits) (id : ℕ) (v : ValueView T) (at : get_elem? s.views id ≡ some v) (call : Call)
      (lock : IsTrue (is_lock_call call)) (appended : List LockEvent) (reply : Reply)
      (is : transition_after limits r.log call ≡ Some (record { appended = appended; reply = reply }))
      (goes : Goes limits counts_now v.held appended reply) where
    abbrev did : Transition
    did = record { appended = appended; reply = reply }

    abbrev log_then : LockLog
    log_then = r.log ++ entry v.pass.name (call, reply) ∷ []

    events_then : events_after limits log_then ≡ events_after limits r.log ++ appended
    events_then = events_longer limits r.log call v.pass.name did is

    counts_then : counts (events_after limits log_then) ≡ after_events counts_now appended
    counts_then =
        let events : List LockEvent = events_after limits r.log in
        ap counts events_then ∙ subst
        (λ (o : Option Transition). counts (events ++ appended_by o) ≡ after_events counts_now (appended_by o)) is
        (transition_counts limits events call range r.represents.well_formed).1

    matches_then : (h : Held) → MatchesAt limits (after_events counts_now appended) h →
        MatchesAt limits (counts (events_after limits log_then)) h
    matches_then h m = subst (λ (c : Counts). MatchesAt limits c h) (sym counts_then) m

    others_match_then : (k : ℕ) (u : ValueView T) → k ≢ id → get_elem? s.views k ≡ some u →
        MatchesAt limits (counts (events_after limits log_then)) u.held
    others_match_then k u other here =
        let apart : id ≢ k = λ e. other (sym e) in
        let two_read = two_counted (λ (x : ValueView T). is_reading x.held) s.views id k v u at here apart in
        let two_write = two_counted (λ (x : ValueView T). is_writing x.held) s.views id k v u at here apart in
        matches_then u.held (others_match limits counts_now within_now v.held appended reply goes u.held
        (r.fits k u here).matches (λ p q. let two = two_read p q in let n = r.readers_are in omega arith)
        (λ p q. let two = two_write p q in let n = r.writers_are in let one = within_now.one_writer in omega arith))

    module _ (values : List T) (home : Home T) (leaves : LeavesValues id appended values home) where
      -- the seat's view then
      abbrev pub view_then : ValueView T
      view_then = record {
        pass = adding (finding v.pass s.word) r.log (call, reply);
        values = values;
        held = held_after appended reply v.held;
      }

      own_fits : Fits limits log_then values view_then
      own_fits = record {
        begins = begins_all values;
        matches = matches_then view_then.held
            (own_matches limits counts_now v.held (r.fits id v at).matches appended reply goes);
        all = λ _. refl;
      }

      others_fit : (k : ℕ) (u : ValueView T) → k ≢ id → get_elem? s.views k ≡ some u → Fits limits log_then values u
      others_fit k u other here =
          let f = r.fits k u here in record {
            begins = begins_further u.values r.values values f.begins leaves.begins;
            matches = others_match_then k u other here;
            all = λ holds. f.all holds ∙ sym (leaves.known k u other here holds);
          }

      are_then : HasValues limits log_then values
      are_then = rw events_then
          (let more = leaves.more in let are = r.are in
          omega (arith, count_by-append is_write_released (events_after limits r.log) appended))

      pub keeps : (word : ℕ) → RepresentsAt limits word (events_after limits r.log ++ appended) →
          IsKept enterable limits first record { word = word; home = home; views = set s.views id view_then } ×
          IsConsistentWith limits view_then.pass
      keeps word represents =
          let passes = makes_call limits r.log r.roots s.views r.legal r.passes id v at call lock did is view_then
          s.word refl in
          let counted = counted_still (λ (u : ValueView T). u.held) limits counts_now s.views r.readers_are
          r.writers_are id v view_then at appended reply goes refl in (
            record {
              log = log_then;
              values = values;
              roots = r.roots;
              one_root = r.one_root;
              legal = legal_longer limits r.log call v.pass.name did is lock r.legal;
              represents = represents_changed limits r.log call v.pass.name did is word represents;
              passes = passes.0;
              are = are_then;
              opens = begins_further (first ∷ []) r.values values r.opens leaves.begins;
              home = subst (λ (c : Counts). HomeIs c values home) (sym counts_then) leaves.home_is;
              fits = after_one (Fits limits log_then values) s.views id view_then own_fits others_fit;
              readers_are = counted.0 ∙ sym (ap (λ (c : Counts). c.readers) counts_then);
              writers_are = counted.1 ∙ sym (ap (λ (c : Counts). c.writers) counts_then);
            },
            passes.1,
          )
