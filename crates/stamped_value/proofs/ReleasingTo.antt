-- A mode that is released to an optimistic stamp: the stamp isn't 0, and stands for the last value.
use Rattle.std.proofs.Common.{◌≡◌, ◌≢◌, ℕ, List, [], ◌∷◌, Some, Option, refl, ap, sym, ◌∙◌, subst, arith, inl, inr}
use Rattle.std.proofs.Common.{true, false}
use Rattle.std.proofs.lemmas.Bool.{false_from_ne_true}
use Rattle.lent_table.specs.Table.{reads, writes}
use Rattle.stamp_core.specs.Limits.{Bounds, AreInRange, units}
use Rattle.stamp_core.specs.LockEvent.{LockEvent, Counts, counts, writers, write_count}
use Rattle.stamp_core.specs.LockEvent.LockEvent.{WriteReleased, ReadReleased}
use Rattle.stamp_core.specs.IsWellFormed.{IsWellFormed, CountsAreWithin}
use Rattle.stamp_core.specs.Decoded.{after_events}
use Rattle.stamp_core.specs.History.{Replies}
use Rattle.stamp_core.specs.Stamp.{optimistic_stamp, is_held_write, is_held_read, IsOptimisticStamp}
use Rattle.stamp_core.specs.Transition.{Transition}
use Rattle.stamp_core.specs.declared.call.Call.TheVariants.{ToOptimistic}
use Rattle.stamp_core.specs.declared.reply.Reply.{Reply}
use Rattle.stamp_core.specs.declared.reply.Reply.TheVariants.{Stamp}
use Rattle.stamp_core.proofs.StampTests.{tests_are_exact}
use Rattle.stamp_core.proofs.TransitionsKeep.{writer_of}
use Rattle.stamp_core.proofs.TwoLayouts.{either_layout}
use Rattle.stamp_core.proofs.WellFormedPush.{obeys_now}
use Rattle.stamp_machines.specs.declared.machine.Turn.TheVariants.{Done}
use Rattle.stamp_threads.specs.GoesAsMachine.{GoesAsMachine}
use Rattle.stamp_threads.specs.LockLog.{events_after, transition_after}
use Rattle.stamp_threads.proofs.Replying.{replies_of}
use Rattle.stamped_value.specs.declared.view.Held.{Held}
use Rattle.stamped_value.specs.declared.view.Held.TheVariants.{Free, Reading, Writing}
use Rattle.stamped_value.specs.Values.{IsLastOf}
use Rattle.stamped_value.specs.Held.{HasHold, MatchesAt, stamp_held}
use Rattle.stamped_value.specs.inner.Held.{MayCall}
use Rattle.stamped_value.specs.ValueMade.{Seen, Does, DoesBy, ValueMade}
use Rattle.stamped_value.specs.Stands.{Stands}
use Rattle.stamped_value.specs.OfStamp.{IsOfStamp, IsOfLast}
use Rattle.stamped_value.specs.Releases.{ReleasesTo}
use Rattle.stamped_value.specs.ValueLock.{ValueLock}
use Rattle.stamped_value.specs.inner.ValueLock.{token}
use Rattle.stamped_value.proofs.OfStamp.{last_is_of_stamp, is_of_last}
use Rattle.stamped_value.proofs.Standing.{had, events, counted}
use Rattle.stamped_value.proofs.StillLast.{log_is_well_formed}
use Rattle.stamped_value.proofs.Tokens.{calls_by, by_held}

module _ {T : Type 0} (limits : Bounds) (range : AreInRange limits) (r s : ℕ) (v w : Seen T)
    (before : Stands limits v) (after : Stands limits w) (m : ValueMade limits (ToOptimistic r) (Stamp s) v w) where
  abbrev found : Counts
  found = counts (events_after limits m.made.log)

  well_formed : IsWellFormed limits (events_after limits m.made.log)
  well_formed = log_is_well_formed limits m.made.log range m.made.left.legal

  within : CountsAreWithin limits found
  within = (obeys_now limits (events_after limits m.made.log) well_formed).within

  abbrev release : LockEvent → Transition
  release event = record { appended = event ∷ []; reply = Stamp (optimistic_stamp (units limits) found.write_count) }

  -- the stamp of a version that no writer has left stands for the last value
  stands_for_last : (x : T) → (d : Counts) → counts (events_after limits w.0.pass.known) ≡ d → d.writers ≡ 0 →
      d.write_count ≡ found.write_count → s ≡ optimistic_stamp (units limits) found.write_count →
      IsLastOf w.0.values x → (s ≢ 0) × IsOfStamp limits w.0.values s x × IsOfLast limits w.0.values s
  stands_for_last x d are none same number last =
      let most = within.versions in
      let room = range.versions in
      let free : writers (events_after limits w.0.pass.known) ≡ 0 = ap (λ (k : Counts). k.writers) are ∙ none in
      let version : write_count (events_after limits w.0.pass.known) ≡ found.write_count =
      ap (λ (k : Counts). k.write_count) are ∙ same in
      let stamp : IsOptimisticStamp (units limits) (write_count (events_after limits w.0.pass.known)) s =
      record { version = omega arith; number = number ∙ ap (optimistic_stamp (units limits)) (sym version) } in (
        λ zero. grind (arith, either_layout limits.layout, number, zero),
        last_is_of_stamp limits w.0.pass.known w.0.values s range after.consistent.legal after.are free (inr stamp) x
            last,
        is_of_last limits w.0.pass.known w.0.values s range after.consistent.legal after.are free (inr stamp),
      )

  module _ (may : MayCall (ToOptimistic r) v.0.held) (event : LockEvent)
      (is : transition_after limits m.made.log (ToOptimistic r) ≡ Some (release event)) where
    replied : Stamp (optimistic_stamp (units limits) found.write_count) ≡ Stamp s
    replied = subst (λ (o : Option Transition). Replies o (Stamp s)) is
        (replies_of limits (ToOptimistic r) (Stamp s) v.0.pass w.0.pass refl m.made)

    did : Does (event ∷ []) (Stamp (optimistic_stamp (units limits) found.write_count)) v m.values w
    did = subst (λ (o : Option Transition). DoesBy o v m.values w) is m.does

    counts_then : counts (events_after limits w.0.pass.known) ≡ after_events found (event ∷ [])
    counts_then =
        ap counts (events limits range (ToOptimistic r) refl (Stamp s) v w before may m (release event) is replied did) ∙
        counted limits range (ToOptimistic r) refl (Stamp s) v w before may m (release event) is replied did

    number : s ≡ optimistic_stamp (units limits) found.write_count
    number = cc replied

  -- what the seat had is the last value then
  abbrev Leaves : T → Type 0
  Leaves x = (w.0.held ≡ Free) × (s ≢ 0) × IsOfStamp limits w.0.values s x × IsOfLast limits w.0.values s

  pub reader_leaves : v.0.held ≡ Reading r → (x : T) × (v.1 ≡ reads x) × Leaves x
  reader_leaves held =
      let matched = subst (MatchesAt limits found) held m.matches in
      let test : is_held_read (units limits) found r ≡ true =
      (tests_are_exact limits (events_after limits m.made.log) r range well_formed).2.1 matched in
      let some = matched.1 in
      let apart = within.apart in
      let no_writer : found.writers ≡ 0 = grind arith in
      let not_write : is_held_write (units limits) found r ≡ false =
      false_from_ne_true _ (λ t. let one = writer_of limits found r t in omega arith) in
      let may : MayCall (ToOptimistic r) v.0.held = inl held in
      let is : transition_after limits m.made.log (ToOptimistic r) ≡ Some (release ReadReleased) =
      rw (not_write, test) refl in
      let does = did may ReadReleased is in
      let read = subst (λ (h : Held). HasHold h m.values v.1) held
      (had limits range (ToOptimistic r) refl (Stamp s) v w before may m) in
      let last = subst (λ (l : List T). IsLastOf l read.0) (sym does.2) read.2 in
      let stands = stands_for_last read.0 _ (counts_then may ReadReleased is) no_writer refl
      (number may ReadReleased is) last in
      (read.0, read.1, (does.0, stands.0, stands.1, stands.2))

  pub writer_leaves : v.0.held ≡ Writing r → (x : T) × (v.1 ≡ writes x) × Leaves x
  writer_leaves held =
      let test : is_held_write (units limits) found r ≡ true =
      (tests_are_exact limits (events_after limits m.made.log) r range well_formed).1.1
      (subst (MatchesAt limits found) held m.matches) in
      let may : MayCall (ToOptimistic r) v.0.held = inr held in
      let is : transition_after limits m.made.log (ToOptimistic r) ≡ Some (release WriteReleased) = rw test refl in
      let does = did may WriteReleased is in
      let stands = stands_for_last does.0 _ (counts_then may WriteReleased is) refl refl
      (number may WriteReleased is) (m.values, does.2.2) in
      (does.0, does.1, (does.2.0, stands.0, stands.1, stands.2))

module _ {T : Type 0} (lock : ValueLock T) (range : AreInRange lock.limits) (answered : Reply) (v w : Seen T)
    (r s : ℕ) (is : answered ≡ Stamp s) (before : Stands lock.limits v) (after : Stands lock.limits w)
    (made : ValueMade lock.limits (ToOptimistic r) answered v w)
    (machine : GoesAsMachine lock.limits (ToOptimistic r) v.0.pass w.0.pass (Done answered)) where
  made_so : ValueMade lock.limits (ToOptimistic r) (Stamp s) v w
  made_so = subst (λ (reply : Reply). ValueMade lock.limits (ToOptimistic r) reply v w) is made

  pub free_by_read : v.0.held ≡ Reading r → w.0.held ≡ Free
  free_by_read held = (reader_leaves lock.limits range r s v w before after made_so held).2.0

  pub free_by_write : v.0.held ≡ Writing r → w.0.held ≡ Free
  free_by_write held = (writer_leaves lock.limits range r s v w before after made_so held).2.0

  releases_to : (held : Held) → v.0.held ≡ held → stamp_held held ≡ r → (x : T) → (s ≢ 0) ×
      IsOfStamp lock.limits w.0.values s x × IsOfLast lock.limits w.0.values s →
      ReleasesTo s x (token lock v) (token lock w)
  releases_to held holds stamp x leaves = record {
    made = by_held lock ToOptimistic r held v w (Stamp s) holds stamp
        (calls_by lock _ _ v w made machine (Stamp s) is);
    some = leaves.0;
    of_stamp = leaves.1;
    last = leaves.2;
  }

  pub releases_read_to : v.0.held ≡ Reading r →
      (x : T) × (v.1 ≡ reads x) × ReleasesTo s x (token lock v) (token lock w)
  releases_read_to held =
      let t = reader_leaves lock.limits range r s v w before after made_so held in
      (t.0, t.1, releases_to (Reading r) held refl t.0 (t.2.1, t.2.2, t.2.3))

  pub releases_write_to : v.0.held ≡ Writing r →
      (x : T) × (v.1 ≡ writes x) × ReleasesTo s x (token lock v) (token lock w)
  releases_write_to held =
      let t = writer_leaves lock.limits range r s v w before after made_so held in
      (t.0, t.1, releases_to (Writing r) held refl t.0 (t.2.1, t.2.2, t.2.3))
