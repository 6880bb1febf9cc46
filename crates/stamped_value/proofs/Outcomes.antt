-- What the reply of each call tells of the mode that the seat holds after it, and of the value.
use Rattle.std.proofs.Common.{◌≡◌, ℕ, ◌+◌, ◌<◌, ◌==◌, Bool, true, false, Option, Some, None, List, [], ◌∷◌}
use Rattle.std.proofs.Common.{refl, ap, sym, ◌∙◌, subst, arith}
use Rattle.std.specs.Prelude.{IsTrue, ◌&&◌, nat_lt, if◌then◌else◌}
use mathlib.Core.List.{IsPrefix}
use Rattle.std.proofs.lemmas.Bool.Decides.{nat_tests}
use Rattle.std.proofs.lemmas.Bool.{and_parts}
use Rattle.stamp_core.specs.Call.{is_lock_call}
use Rattle.stamp_core.specs.Limits.{Bounds, AreInRange, units}
use Rattle.stamp_core.specs.LockEvent.{Counts, counts}
use Rattle.stamp_core.specs.LockEvent.LockEvent.{WriteAcquired, WriteReleased, ReadAcquired, ReadReleased}
use Rattle.stamp_core.specs.IsWellFormed.{IsWellFormed, CountsAreWithin}
use Rattle.stamp_core.specs.History.{Replies}
use Rattle.stamp_core.specs.Stamp.{write_stamp, read_stamp, optimistic_stamp, is_held_write, is_held_read}
use Rattle.stamp_core.specs.Transition.{Transition, answer, change, next_write, next_read}
use Rattle.stamp_core.specs.Transition.{may_write, may_read}
use Rattle.stamp_core.specs.declared.call.Call.{Call}
use Rattle.stamp_core.specs.declared.call.Call.TheVariants.{TryWrite, TryRead, WriteLock, ReadLock}
use Rattle.stamp_core.specs.declared.call.Call.TheVariants.{UnlockWrite, UnlockRead, ToWrite, ToRead}
use Rattle.stamp_core.specs.declared.reply.Reply.{Reply}
use Rattle.stamp_core.specs.declared.reply.Reply.TheVariants.{Stamp, Done}
use Rattle.stamp_core.proofs.StampTests.{tests_are_exact}
use Rattle.stamp_core.proofs.TransitionsKeep.{writer_of}
use Rattle.stamp_core.proofs.TwoLayouts.{either_layout}
use Rattle.stamp_core.proofs.WellFormedPush.{obeys_now}
use Rattle.stamp_threads.specs.LockLog.{events_after, transition_after}
use Rattle.stamp_threads.proofs.Replying.{replies_of}
use Rattle.stamped_value.specs.declared.view.Held.TheVariants.{Free, Reading, Writing}
use Rattle.stamped_value.specs.Values.{IsLastOf}
use Rattle.stamped_value.specs.Held.{MatchesAt}
use Rattle.stamped_value.specs.ValueMade.{Seen, DoesBy, ValueMade}
use Rattle.stamped_value.specs.Outcomes.{WritesLast, WritesWhatRead, ReadsWhatWritten, LeavesWhatWritten}
use Rattle.stamped_value.proofs.StillLast.{log_is_well_formed}

-- the call was answered this stamp: where it isn't 0 the first holds, and else the second
abbrev pub ByStamp : ℕ → Type 0 → Type 0 → Type 0
ByStamp s Got Not = (0 < s → Got) × (s ≡ 0 → Not)

not_free : (l : Bounds) (c : Counts) → 0 < c.readers → may_write l c ≡ true → ⊥
not_free l c some may = let none : c.readers ≡ 0 = grind (arith, nat_tests) in omega arith

module _ {T : Type 0} where
  -- the seat holds what it held, and has what it had
  abbrev pub IsAsBefore : Seen T → Seen T → Type 0
  IsAsBefore v w = (w.0.held ≡ v.0.held) × (w.1 ≡ v.1)

  -- the seat holds write mode by this stamp, and has the last value
  abbrev pub BecameWriter : ℕ → Seen T → Type 0
  BecameWriter s w = (w.0.held ≡ Writing s) × WritesLast w

  module _ (limits : Bounds) (c : Counts) (v : Seen T) (values : List T) (w : Seen T) where
    -- what a transition replied and did
    abbrev Did : Option Transition → Reply → Type 0
    Did t reply = Replies t reply × DoesBy t v values w

    as_before : (s : ℕ) → Did (answer (Stamp 0)) (Stamp s) → {Got : Type 0} → ByStamp s Got (IsAsBefore v w)
    as_before s did = let none : 0 ≡ s = cc (did.0) in
        (λ some. absurd (omega arith), λ _. (did.1.0, did.1.1))

    new_reader : (s : ℕ) → Did (change (ReadAcquired ∷ []) (next_read (units limits) c)) (Stamp s) →
        (0 < s) × (w.0.held ≡ Reading s)
    new_reader s did =
        let is : read_stamp (units limits) c.write_count (c.readers + 1) ≡ s = cc (did.0) in
        (omega arith, did.1.2.0 ∙ ap Reading is)

    new_writer : (s : ℕ) → Did (change (WriteAcquired ∷ []) (next_write (units limits) c)) (Stamp s) →
        (0 < s) × BecameWriter s w
    new_writer s did =
        let is : write_stamp (units limits) (c.write_count + 1) ≡ s = cc (did.0) in (
          grind (arith, either_layout limits.layout),
          (
            did.1.2.0 ∙ ap Writing is,
            (did.1.0, did.1.2.1, subst (λ (xs : List T). IsLastOf xs did.1.0) (sym did.1.2.2) did.1.1),
          ),
        )

    try_read_row : (may : Bool) (s : ℕ) →
        Did (if may then change (ReadAcquired ∷ []) (next_read (units limits) c) else answer (Stamp 0)) (Stamp s) →
        ByStamp s (w.0.held ≡ Reading s) (IsAsBefore v w)
    try_read_row true s did =
        let new = new_reader s did in let some = new.0 in (λ _. new.1, λ none. absurd (omega arith))
    try_read_row false s did = as_before s did

    read_row : (may : Bool) (s : ℕ) →
        Did (if may then change (ReadAcquired ∷ []) (next_read (units limits) c) else None) (Stamp s) →
        w.0.held ≡ Reading s
    read_row true s did = (new_reader s did).1
    read_row false s did = absurd did.0

    try_write_row : (may : Bool) (s : ℕ) →
        Did (if may then change (WriteAcquired ∷ []) (next_write (units limits) c) else answer (Stamp 0)) (Stamp s) →
        ByStamp s (BecameWriter s w) (IsAsBefore v w)
    try_write_row true s did =
        let new = new_writer s did in let some = new.0 in (λ _. new.1, λ none. absurd (omega arith))
    try_write_row false s did = as_before s did

    write_row : (spent may : Bool) (s : ℕ) →
        Did (if spent then answer (Stamp 0)
        else if may then change (WriteAcquired ∷ []) (next_write (units limits) c)
        else None) (Stamp s) → ByStamp s (BecameWriter s w) (IsAsBefore v w)
    write_row true may s did = as_before s did
    write_row false true s did =
        let new = new_writer s did in let some = new.0 in (λ _. new.1, λ none. absurd (omega arith))
    write_row false false s did = absurd did.0

    upgrade_row : (written sole free : Bool) (held s : ℕ) → (written ≡ true → ⊥) → (free ≡ true → ⊥) →
        Did (if written then answer (Stamp held)
        else if sole then change (ReadReleased ∷ WriteAcquired ∷ []) (next_write (units limits) c)
        else if free then change (WriteAcquired ∷ []) (next_write (units limits) c)
        else answer (Stamp 0)) (Stamp s) → ByStamp s (BecameWriter s w × WritesWhatRead v w) (IsAsBefore v w)
    upgrade_row true sole free held s writes_not free_not did = absurd (writes_not refl)
    upgrade_row false true free held s writes_not free_not did =
        let is : write_stamp (units limits) (c.write_count + 1) ≡ s = cc (did.0) in
        let some : 0 < s = grind (arith, either_layout limits.layout) in
        let d = did.1 in (
          λ _. (
            (d.3.0 ∙ ap Writing is, (d.0, d.3.1, subst (λ (xs : List T). IsLastOf xs d.0) (sym d.3.2) d.1)),
            (d.0, d.2, d.3.1),
          ),
          λ none. absurd (omega arith),
        )
    upgrade_row false false true held s writes_not free_not did = absurd (free_not refl)
    upgrade_row false false false held s writes_not free_not did = as_before s did

  module _ (limits : Bounds) (range : AreInRange limits) (reply : Reply) (v w : Seen T) where
    abbrev counts_of : {call : Call} → ValueMade limits call reply v w → Counts
    counts_of m = counts (events_after limits m.made.log)

    well_formed : {call : Call} (m : ValueMade limits call reply v w) →
        IsWellFormed limits (events_after limits m.made.log)
    well_formed m = log_is_well_formed limits m.made.log range m.made.left.legal

    within : {call : Call} (m : ValueMade limits call reply v w) → CountsAreWithin limits (counts_of m)
    within m = (obeys_now limits (events_after limits m.made.log) (well_formed m)).within

    did_so : {call : Call} → IsTrue (is_lock_call call) → (m : ValueMade limits call reply v w) →
        Did limits (counts_of m) v m.values w (transition_after limits m.made.log call) reply
    did_so {call} lock m = (replies_of limits call reply v.0.pass w.0.pass lock m.made, m.does)

    module _ (s : ℕ) (is : reply ≡ Stamp s) where
      did_answer : {call : Call} → IsTrue (is_lock_call call) → (m : ValueMade limits call reply v w) →
          Did limits (counts_of m) v m.values w (transition_after limits m.made.log call) (Stamp s)
      did_answer {call} lock m = let did = did_so lock m in
          (subst (λ (r : Reply). Replies (transition_after limits m.made.log call) r) is did.0, did.1)

      pub tried_read : ValueMade limits TryRead reply v w → ByStamp s (w.0.held ≡ Reading s) (IsAsBefore v w)
      tried_read m = try_read_row limits (counts_of m) v m.values w (may_read limits (counts_of m)) s
          (did_answer refl m)

      pub has_read : ValueMade limits ReadLock reply v w → w.0.held ≡ Reading s
      has_read m = read_row limits (counts_of m) v m.values w (may_read limits (counts_of m)) s (did_answer refl m)

      pub tried_write : ValueMade limits TryWrite reply v w → ByStamp s (BecameWriter s w) (IsAsBefore v w)
      tried_write m = try_write_row limits (counts_of m) v m.values w (may_write limits (counts_of m)) s
          (did_answer refl m)

      pub has_written : ValueMade limits WriteLock reply v w → ByStamp s (BecameWriter s w) (IsAsBefore v w)
      has_written m = write_row limits (counts_of m) v m.values w ((counts_of m).write_count == limits.versions)
          (may_write limits (counts_of m)) s (did_answer refl m)

      -- a reader is alone, or it stays a reader
      pub upgraded : (r : ℕ) → v.0.held ≡ Reading r → ValueMade limits (ToWrite r) reply v w →
          ByStamp s (BecameWriter s w × WritesWhatRead v w) (IsAsBefore v w)
      upgraded r held m =
          let c = counts_of m in
          let some : 0 < c.readers = (subst (MatchesAt limits c) held m.matches).1 in
          let apart = (within m).apart in
          let no_writer : c.writers ≡ 0 = grind arith in
          upgrade_row limits c v m.values w (is_held_write (units limits) c r)
          (is_held_read (units limits) c r && (c.readers == 1) && nat_lt c.write_count limits.versions)
          ((r == optimistic_stamp (units limits) c.write_count) && may_write limits c) r s
          (λ t. let one = writer_of limits c r t in omega arith)
          (λ t. let may = (and_parts _ _ t).1 in not_free limits c some may) (did_answer refl m)

    -- a transition that the call has
    did_row : {call : Call} → IsTrue (is_lock_call call) → (m : ValueMade limits call reply v w) → (t : Transition) →
        transition_after limits m.made.log call ≡ Some t → Did limits (counts_of m) v m.values w (Some t) reply
    did_row lock m t is =
        subst (λ (o : Option Transition). Did limits (counts_of m) v m.values w o reply) is (did_so lock m)

    pub released_read : (r : ℕ) → v.0.held ≡ Reading r → ValueMade limits (UnlockRead r) reply v w →
        (reply ≡ Done) × (w.0.held ≡ Free) × IsPrefix v.0.values w.0.values
    released_read r held m =
        let c = counts_of m in
        let test : is_held_read (units limits) c r ≡ true =
        (tests_are_exact limits (events_after limits m.made.log) r range (well_formed m)).2.1
        (subst (MatchesAt limits c) held m.matches) in
        let did = did_row refl m record { appended = ReadReleased ∷ []; reply = Done } (rw test refl) in
        (sym did.0, did.1.0, subst (IsPrefix v.0.values) (sym did.1.2) m.begins)

    module _ (r : ℕ) (held : v.0.held ≡ Writing r) where
      held_write : {call : Call} (m : ValueMade limits call reply v w) →
          is_held_write (units limits) (counts_of m) r ≡ true
      held_write m = (tests_are_exact limits (events_after limits m.made.log) r range (well_formed m)).1.1
          (subst (MatchesAt limits (counts_of m)) held m.matches)

      pub released_write : ValueMade limits (UnlockWrite r) reply v w →
          (reply ≡ Done) × (w.0.held ≡ Free) × LeavesWhatWritten v w
      released_write m =
          let test = held_write m in
          let did = did_row refl m record { appended = WriteReleased ∷ []; reply = Done } (rw test refl) in
          let d = did.1 in (sym did.0, d.2.0, (d.0, d.1, (m.values, d.2.2)))

      -- a writer becomes a reader
      pub downgraded : (s : ℕ) → reply ≡ Stamp s → ValueMade limits (ToRead r) reply v w →
          (w.0.held ≡ Reading s) × ReadsWhatWritten v w
      downgraded s is m =
          let test = held_write m in
          let n = read_stamp (units limits) (counts_of m).write_count 1 in
          let did = did_row refl m record { appended = WriteReleased ∷ ReadAcquired ∷ []; reply = Stamp n }
          (rw test refl) in
          let same : n ≡ s = cc (did.0, is) in
          let d = did.1 in (d.2.0 ∙ ap Reading same, (d.0, d.1, d.2.1))
