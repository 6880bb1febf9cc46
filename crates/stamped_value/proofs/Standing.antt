-- After a call that was made, a seat stands as it did before: it has of the value what its mode gives.
use Rattle.std.proofs.Common.{◌≡◌, ℕ, suc, ◌+◌, Option, Some, None, List, [], ◌∷◌, ◌++◌, length, refl, ap, sym, ◌∙◌}
use Rattle.std.proofs.Common.{subst, arith, length-append}
use Rattle.std.specs.Prelude.{IsTrue, count_by}
use Rattle.stamp_core.specs.Call.{is_lock_call}
use Rattle.stamp_core.specs.Limits.{Bounds, AreInRange}
use Rattle.stamp_core.specs.LockEvent.{LockEvent, Counts, counts, is_write_released}
use Rattle.stamp_core.specs.LockEvent.LockEvent.{WriteAcquired, WriteReleased, ReadAcquired, ReadReleased}
use Rattle.stamp_core.specs.IsWellFormed.{IsWellFormed, CountsAreWithin}
use Rattle.stamp_core.specs.Decoded.{after_events}
use Rattle.stamp_core.specs.History.{Replies, appended_by}
use Rattle.stamp_core.specs.Transition.{Transition}
use Rattle.stamp_core.specs.declared.call.Call.{Call}
use Rattle.stamp_core.specs.declared.reply.Reply.{Reply}
use Rattle.stamp_core.specs.declared.reply.Reply.TheVariants.{Stamp}
use Rattle.stamp_core.proofs.StampValidity.{transition_counts}
use Rattle.stamp_core.proofs.WellFormedPush.{obeys_now}
use Rattle.stamp_threads.specs.PassView.{entry}
use Rattle.stamp_threads.specs.LockLog.{LockLog, events_after, transition_after}
use Rattle.stamp_threads.proofs.LockLogs.{events_longer}
use Rattle.stamp_threads.proofs.Replying.{replies_of}
use Rattle.stamped_value.specs.declared.view.Held.TheVariants.{Reading, Writing}
use Rattle.stamped_value.specs.Held.{HasHold, MatchesAt}
use Rattle.stamped_value.specs.inner.Held.{MayCall}
use Rattle.stamped_value.specs.ValueMade.{Seen, Does, DoesBy, ValueMade}
use Rattle.stamped_value.specs.Stands.{Stands}
use Rattle.stamped_value.proofs.Counted.{count_by-append}
use Rattle.stamped_value.proofs.Going.{Goes}
use Rattle.stamped_value.proofs.Goes.{row_goes}
use Rattle.stamped_value.proofs.StillLast.{log_is_well_formed, has_still}

-- how many versions have ended
abbrev ended : List LockEvent → ℕ
ended events = count_by is_write_released events

more_ended : (events appended : List LockEvent) → ended (events ++ appended) ≡ ended events + ended appended
more_ended events appended = count_by-append is_write_released events appended

module _ {T : Type 0} where
  -- one value for each version
  valued : (events appended : List LockEvent) (reply : Reply) (v : Seen T) (values : List T) (w : Seen T) →
      Does appended reply v values w → length values ≡ suc (ended events) →
      length w.0.values ≡ suc (ended (events ++ appended))
  valued events [] reply v values w does are = omega (arith, ap length does.2, are, more_ended events [])
  valued events (WriteAcquired ∷ []) (Stamp s) v values w does are =
      omega (arith, ap length does.2.2, are, more_ended events (WriteAcquired ∷ []))
  valued events (ReadAcquired ∷ []) (Stamp s) v values w does are =
      omega (arith, ap length does.2.2, are, more_ended events (ReadAcquired ∷ []))
  valued events (ReadReleased ∷ []) reply v values w does are =
      omega (arith, ap length does.2, are, more_ended events (ReadReleased ∷ []))
  valued events (WriteReleased ∷ []) reply v values w does are = omega (
    arith,
    ap length does.2.2,
    length-append values (does.0 ∷ []),
    are,
    more_ended events (WriteReleased ∷ []),
  )
  valued events (ReadReleased ∷ WriteAcquired ∷ []) (Stamp s) v values w does are =
      omega (arith, ap length does.3.2, are, more_ended events (ReadReleased ∷ WriteAcquired ∷ []))
  valued events (WriteReleased ∷ ReadAcquired ∷ []) (Stamp s) v values w does are = omega (
    arith,
    ap length does.2.2,
    length-append values (does.0 ∷ []),
    are,
    more_ended events (WriteReleased ∷ ReadAcquired ∷ []),
  )
  valued events _ reply v values w does are = absurd does

  -- what its mode gives
  has : (appended : List LockEvent) (reply : Reply) (v : Seen T) (values : List T) (w : Seen T) →
      Does appended reply v values w → HasHold v.0.held values v.1 → HasHold w.0.held w.0.values w.1
  has [] reply v values w does had = rw (does.0, does.1, does.2) had
  has (WriteAcquired ∷ []) (Stamp s) v values w does had = rw (does.2.0, does.2.1) (does.0, refl)
  has (ReadAcquired ∷ []) (Stamp s) v values w does had =
      rw (does.2.0, does.2.1, does.2.2) (does.0, refl, does.1)
  has (ReadReleased ∷ []) reply v values w does had = rw (does.0, does.1) refl
  has (WriteReleased ∷ []) reply v values w does had = rw (does.2.0, does.2.1) refl
  has (ReadReleased ∷ WriteAcquired ∷ []) (Stamp s) v values w does had = rw (does.3.0, does.3.1) (does.0, refl)
  has (WriteReleased ∷ ReadAcquired ∷ []) (Stamp s) v values w does had =
      rw (does.2.0, does.2.1, does.2.2) (does.0, refl, (values, refl))
  has _ reply v values w does had = absurd does

  -- and a stamp that matches
  matched : (limits : Bounds) (c : Counts) (appended : List LockEvent) (reply : Reply) (v : Seen T)
      (values : List T) (w : Seen T) → Does appended reply v values w → Goes limits c v.0.held appended reply →
      MatchesAt limits c v.0.held → MatchesAt limits (after_events c appended) w.0.held
  matched limits c [] reply v values w does goes m = rw does.0 m
  matched limits c (WriteAcquired ∷ []) (Stamp s) v values w does goes m =
      let e : goes.0 ≡ s = cc in
      rw does.2.0 (subst (λ (n : ℕ). MatchesAt limits (after_events c (WriteAcquired ∷ [])) (Writing n)) e goes.5)
  matched limits c (ReadAcquired ∷ []) (Stamp s) v values w does goes m =
      let e : goes.0 ≡ s = cc in
      rw does.2.0 (subst (λ (n : ℕ). MatchesAt limits (after_events c (ReadAcquired ∷ [])) (Reading n)) e goes.5)
  matched limits c (ReadReleased ∷ []) reply v values w does goes m = rw does.0 tt
  matched limits c (WriteReleased ∷ []) reply v values w does goes m = rw does.2.0 tt
  matched limits c (ReadReleased ∷ WriteAcquired ∷ []) (Stamp s) v values w does goes m =
      let e : goes.1 ≡ s = cc in
      rw does.3.0 (subst (λ (n : ℕ). MatchesAt limits (after_events c (ReadReleased ∷ WriteAcquired ∷ [])) (Writing n))
      e goes.6)
  matched limits c (WriteReleased ∷ ReadAcquired ∷ []) (Stamp s) v values w does goes m =
      let e : goes.1 ≡ s = cc in
      rw does.2.0 (subst (λ (n : ℕ). MatchesAt limits (after_events c (WriteReleased ∷ ReadAcquired ∷ [])) (Reading n))
      e goes.6)
  matched limits c _ reply v values w does goes m = absurd does

  module _ (limits : Bounds) (range : AreInRange limits) (call : Call) (lock : IsTrue (is_lock_call call))
      (reply : Reply) (v w : Seen T) (stands : Stands limits v) (may : MayCall call v.0.held)
      (m : ValueMade limits call reply v w) where
    abbrev before : List LockEvent
    before = events_after limits m.made.log

    well_formed : IsWellFormed limits before
    well_formed = log_is_well_formed limits m.made.log range m.made.left.legal

    within : CountsAreWithin limits (counts before)
    within = (obeys_now limits before well_formed).within

    -- what the seat had it has still when the call is made
    pub had : HasHold v.0.held m.values v.1
    had = has_still limits range v.0.pass.known m.made.log v.0.values m.values stands.consistent.legal m.made.left.legal
        stands.are m.are m.begins v.0.held v.1 stands.matches m.matches stands.hold

    module _ (t : Transition) (is : transition_after limits m.made.log call ≡ Some t) (same : t.reply ≡ reply)
        (does : Does t.appended t.reply v m.values w) where
      known : w.0.pass.known ≡ m.made.log ++ entry v.0.pass.name (call, t.reply) ∷ []
      known = m.made.known ∙
          ap (λ (r : Reply). m.made.log ++ entry v.0.pass.name (call, r) ∷ []) (sym same)

      pub events : events_after limits w.0.pass.known ≡ before ++ t.appended
      events = ap (λ (l : LockLog). events_after limits l) known ∙
          events_longer limits m.made.log call v.0.pass.name t is

      pub counted : counts (before ++ t.appended) ≡ after_events (counts before) t.appended
      counted = subst (λ (o : Option Transition). counts (before ++ appended_by o) ≡
          after_events (counts before) (appended_by o)) is (transition_counts limits before call range well_formed).1

      goes : Goes limits (counts before) v.0.held t.appended t.reply
      goes = row_goes limits (counts before) range within call v.0.held may m.matches t is

      stands_by : Stands limits w
      stands_by = record {
        consistent = m.made.consistent;
        are = subst (λ (l : List LockEvent). length w.0.values ≡ suc (ended l)) (sym events)
            (valued before t.appended t.reply v m.values w does m.are);
        hold = has t.appended t.reply v m.values w does had;
        matches = subst (λ (l : List LockEvent). MatchesAt limits (counts l) w.0.held) (sym events)
            (subst (λ (c : Counts). MatchesAt limits c w.0.held) (sym counted)
            (matched limits (counts before) t.appended t.reply v m.values w does goes m.matches));
      }

    stands_if : (t : Option Transition) → transition_after limits m.made.log call ≡ t → Replies t reply →
        DoesBy t v m.values w → Stands limits w
    stands_if None is replies does = absurd replies
    stands_if (Some t) is replies does = stands_by t is replies does

    pub stands_after : Stands limits w
    stands_after = stands_if (transition_after limits m.made.log call) refl
        (replies_of limits call reply v.0.pass w.0.pass lock m.made) m.does
