-- Each row of the lock's call table does what a call of a seat does: by the counts before it, and by the mode that
-- the seat holds, whose stamp matches.
use Rattle.std.proofs.Common.{◌≡◌, ℕ, ◌+◌, ◌<◌, ◌≤◌, ◌^◌, ◌==◌, List, [], ◌∷◌, refl, subst, arith, Bool, true}
use Rattle.std.proofs.Common.{false, Option, Some, None, ◌⊎◌, inl, inr}
use Rattle.std.specs.Prelude.{if◌then◌else◌, ◌&&◌, nat_lt}
use Rattle.std.proofs.lemmas.Bool.Decides.{nat_tests}
use Rattle.std.proofs.lemmas.Bool.{and_parts}
use Rattle.stamp_core.specs.LockEvent.{LockEvent, Counts}
use Rattle.stamp_core.specs.LockEvent.LockEvent.{WriteAcquired, WriteReleased, ReadAcquired, ReadReleased}
use Rattle.stamp_core.specs.Limits.{Bounds, AreInRange, units}
use Rattle.stamp_core.specs.IsWellFormed.{CountsAreWithin}
use Rattle.stamp_core.specs.Stamp.{write_stamp, read_stamp, optimistic_stamp, is_held_write, is_held_read}
use Rattle.stamp_core.specs.Stamp.{IsWriteStamp, IsReadStamp}
use Rattle.stamp_core.specs.Transition.{Transition, row, answer, change, next_write, next_read, may_write, may_read}
use Rattle.stamp_core.proofs.TwoLayouts.{either_layout}
use Rattle.stamp_core.proofs.TransitionsKeep.{writer_of, reader_of, sole_reader}
use Rattle.stamp_core.specs.declared.call.Call.{Call}
use Rattle.stamp_core.specs.declared.call.Call.TheVariants.{TryWrite, TryRead, WriteLock, ReadLock}
use Rattle.stamp_core.specs.declared.call.Call.TheVariants.{Optimistic, Validate, UnlockWrite}
use Rattle.stamp_core.specs.declared.call.Call.TheVariants.{UnlockRead, ToWrite, ToRead, ToOptimistic}
use Rattle.stamp_core.specs.declared.call.Call.TheVariants.{IsWriteLocked, IsReadLocked, ReadCount}
use Rattle.stamp_core.specs.declared.reply.Reply.{Reply}
use Rattle.stamp_core.specs.declared.reply.Reply.TheVariants.{Stamp, Done}
use Rattle.stamped_value.specs.declared.view.Held.{Held}
use Rattle.stamped_value.specs.declared.view.Held.TheVariants.{Free, Reading, Writing}
use Rattle.stamped_value.specs.Held.{MatchesAt}
use Rattle.stamped_value.specs.inner.Held.{MayCall}
use Rattle.stamped_value.proofs.Going.{Goes}

abbrev pub GoesBy : Bounds → Counts → Held → Option Transition → Type 0
GoesBy limits c h None = Unit {0}
GoesBy limits c h (Some t) = Goes limits c h t.appended t.reply

-- a seat that held h does this transition, where there is one
pub record Moves (limits : Bounds) (c : Counts) (h : Held) (t : Option Transition) : Type 0 where
  pub goes : GoesBy limits c h t

moves_if : (limits : Bounds) (c : Counts) (h : Held) (b : Bool) {x y : Option Transition} →
    (b ≡ true → Moves limits c h x) → (b ≡ false → Moves limits c h y) → Moves limits c h (if b then x else y)
moves_if limits c h true f g = f refl
moves_if limits c h false f g = g refl

waits : {limits : Bounds} {c : Counts} {h : Held} → Moves limits c h None
waits = record { goes = tt }

stays : {limits : Bounds} {c : Counts} {h : Held} {reply : Reply} → Moves limits c h (answer reply)
stays = record { goes = tt }

moves : {limits : Bounds} {c : Counts} {h : Held} {appended : List LockEvent} {reply : Reply} →
    Goes limits c h appended reply → Moves limits c h (change appended reply)
moves goes = record { goes = goes }

-- what the tests of the rows tell
free_to_write : (l : Bounds) (c : Counts) → may_write l c ≡ true →
    (c.writers ≡ 0) × (c.readers ≡ 0) × (c.write_count < l.versions)
free_to_write l c may = grind (arith, nat_tests)

free_to_read : (l : Bounds) (c : Counts) → may_read l c ≡ true → (c.writers ≡ 0) × (c.readers < l.readers)
free_to_read l c may = grind (arith, nat_tests)

no_writer : (l : Bounds) (c : Counts) → CountsAreWithin l c → 0 < c.readers → c.writers ≡ 0
no_writer l c within some = grind arith

few_readers : (l : Bounds) → AreInRange l → (n : ℕ) → n ≤ l.readers → n < 2 ^ 62
few_readers l range n few = let e = either_layout l.layout in grind arith

-- the stamps that acquiring a mode answers
new_writer : (l : Bounds) (c : Counts) → AreInRange l → c.write_count < l.versions →
    IsWriteStamp (units l) (c.write_count + 1) (write_stamp (units l) (c.write_count + 1))
new_writer l c range room = record { some = omega arith; most = omega arith; number = refl }

new_reader : (l : Bounds) (c : Counts) → AreInRange l → CountsAreWithin l c → (n : ℕ) → 1 ≤ n → n ≤ l.readers →
    IsReadStamp (units l) c.write_count (read_stamp (units l) c.write_count n)
new_reader l c range within n some few = record {
  nth = n;
  some = some;
  most = omega arith;
  version = omega arith;
  number = refl;
}

-- what the rows do where their tests pass
got_write : (l : Bounds) (c : Counts) → AreInRange l → (h : Held) → h ≡ Free → may_write l c ≡ true →
    Goes l c h (WriteAcquired ∷ []) (next_write (units l) c)
got_write l c range h free may =
    let t = free_to_write l c may in
    (write_stamp (units l) (c.write_count + 1), refl, free, t.0, t.1, (new_writer l c range t.2, refl))

got_read : (l : Bounds) (c : Counts) → AreInRange l → CountsAreWithin l c → (h : Held) → h ≡ Free →
    may_read l c ≡ true → Goes l c h (ReadAcquired ∷ []) (next_read (units l) c)
got_read l c range within h free may =
    let t = free_to_read l c may in
    let few : c.readers ≤ l.readers = omega arith in (
      read_stamp (units l) c.write_count (c.readers + 1),
      refl,
      free,
      t.0,
      few_readers l range c.readers few,
      (new_reader l c range within (c.readers + 1) (omega arith) (omega arith), omega arith),
    )

end_write : (l : Bounds) (c : Counts) → CountsAreWithin l c → (h : Held) (s : ℕ) → h ≡ Writing s →
    is_held_write (units l) c s ≡ true → Goes l c h (WriteReleased ∷ []) Done
end_write l c within h s at held =
    let one = writer_of l c s held in (s, at, one, within.apart (omega arith))

end_read : (l : Bounds) (c : Counts) → AreInRange l → CountsAreWithin l c → (h : Held) (s : ℕ) → h ≡ Reading s →
    is_held_read (units l) c s ≡ true → Goes l c h (ReadReleased ∷ []) Done
end_read l c range within h s at held =
    let some = reader_of l c s held in
    (s, at, no_writer l c within some, some, few_readers l range c.readers within.readers)

read_to_write : (l : Bounds) (c : Counts) → AreInRange l → CountsAreWithin l c → (h : Held) (s : ℕ) →
    h ≡ Reading s → (is_held_read (units l) c s && (c.readers == 1) && nat_lt c.write_count l.versions) ≡ true →
    Goes l c h (ReadReleased ∷ WriteAcquired ∷ []) (next_write (units l) c)
read_to_write l c range within h s at held =
    let t = sole_reader l c s held in (
      s,
      write_stamp (units l) (c.write_count + 1),
      refl,
      at,
      no_writer l c within (omega arith),
      t.0,
      (new_writer l c range t.1, refl),
    )

write_to_read : (l : Bounds) (c : Counts) → AreInRange l → CountsAreWithin l c → (h : Held) (s : ℕ) →
    h ≡ Writing s → is_held_write (units l) c s ≡ true →
    Goes l c h (WriteReleased ∷ ReadAcquired ∷ []) (Stamp (read_stamp (units l) c.write_count 1))
write_to_read l c range within h s at held =
    let one = writer_of l c s held in (
      s,
      read_stamp (units l) c.write_count 1,
      refl,
      at,
      one,
      within.apart (omega arith),
      (new_reader l c range within 1 (omega arith) range.some_reader, omega arith),
    )

-- a seat that holds a mode is counted, so the rows for an optimistic stamp are not for it
reader_counted : (l : Bounds) (c : Counts) (h : Held) (s : ℕ) → h ≡ Reading s → MatchesAt l c h → 0 < c.readers
reader_counted l c h s at m = (subst (MatchesAt l c) at m).1

writer_counted : (l : Bounds) (c : Counts) (h : Held) (s : ℕ) → h ≡ Writing s → MatchesAt l c h → c.writers ≡ 1
writer_counted l c h s at m = (subst (MatchesAt l c) at m).1

not_to_write : (l : Bounds) (c : Counts) → 0 < c.readers → may_write l c ≡ true → ⊥
not_to_write l c some may = let none = (free_to_write l c may).1 in omega arith

not_to_read : (l : Bounds) (c : Counts) → c.writers ≡ 1 → may_read l c ≡ true → ⊥
not_to_read l c one may = let none = (free_to_read l c may).0 in omega arith

-- a seat that holds one of the modes by this stamp holds the one that the stamp matches
is_the_writer : (l : Bounds) (c : Counts) → CountsAreWithin l c → (h : Held) (s : ℕ) →
    (h ≡ Reading s) ⊎ (h ≡ Writing s) → MatchesAt l c h → is_held_write (units l) c s ≡ true → h ≡ Writing s
is_the_writer l c within h s (inl reads) m held =
    let one = writer_of l c s held in
    let none = no_writer l c within (reader_counted l c h s reads m) in absurd (omega arith)
is_the_writer l c within h s (inr writes) m held = writes

is_a_reader : (l : Bounds) (c : Counts) → CountsAreWithin l c → (h : Held) (s : ℕ) →
    (h ≡ Reading s) ⊎ (h ≡ Writing s) → MatchesAt l c h → is_held_read (units l) c s ≡ true → h ≡ Reading s
is_a_reader l c within h s (inl reads) m held = reads
is_a_reader l c within h s (inr writes) m held =
    let one = writer_counted l c h s writes m in
    let none = no_writer l c within (reader_of l c s held) in absurd (omega arith)

-- the rows
rows_go : (limits : Bounds) (c : Counts) → AreInRange limits → CountsAreWithin limits c → (call : Call) (h : Held) →
    MayCall call h → MatchesAt limits c h → Moves limits c h (row limits c call)
rows_go l c range within TryWrite h free m =
    moves_if l c h (may_write l c) (λ t. moves (got_write l c range h free t)) (λ _. stays)
rows_go l c range within TryRead h free m =
    moves_if l c h (may_read l c) (λ t. moves (got_read l c range within h free t)) (λ _. stays)
rows_go l c range within WriteLock h free m =
    moves_if l c h (c.write_count == l.versions) (λ _. stays)
    (λ _. moves_if l c h (may_write l c) (λ t. moves (got_write l c range h free t)) (λ _. waits))
rows_go l c range within ReadLock h free m =
    moves_if l c h (may_read l c) (λ t. moves (got_read l c range within h free t)) (λ _. waits)
rows_go l c range within Optimistic h may m = stays
rows_go l c range within (Validate s) h may m = stays
rows_go l c range within (UnlockWrite s) h at m =
    moves_if l c h (is_held_write (units l) c s) (λ t. moves (end_write l c within h s at t)) (λ _. stays)
rows_go l c range within (UnlockRead s) h at m =
    moves_if l c h (is_held_read (units l) c s) (λ t. moves (end_read l c range within h s at t)) (λ _. stays)
rows_go l c range within (ToWrite s) h at m =
    moves_if l c h (is_held_write (units l) c s) (λ _. stays)
    (λ _. moves_if l c h (is_held_read (units l) c s && (c.readers == 1) && nat_lt c.write_count l.versions)
    (λ t. moves (read_to_write l c range within h s at t))
    (λ _. moves_if l c h ((s == optimistic_stamp (units l) c.write_count) && may_write l c)
    (λ t. absurd (not_to_write l c (reader_counted l c h s at m) (and_parts _ _ t).1)) (λ _. stays)))
rows_go l c range within (ToRead s) h at m =
    moves_if l c h (is_held_write (units l) c s) (λ t. moves (write_to_read l c range within h s at t))
    (λ _. moves_if l c h (is_held_read (units l) c s) (λ _. stays)
    (λ _. moves_if l c h ((s == optimistic_stamp (units l) c.write_count) && may_read l c)
    (λ t. absurd (not_to_read l c (writer_counted l c h s at m) (and_parts _ _ t).1)) (λ _. stays)))
rows_go l c range within (ToOptimistic s) h at m =
    moves_if l c h (is_held_write (units l) c s)
    (λ t. moves (end_write l c within h s (is_the_writer l c within h s at m t) t))
    (λ _. moves_if l c h (is_held_read (units l) c s)
    (λ t. moves (end_read l c range within h s (is_a_reader l c within h s at m t) t))
    (λ _. moves_if l c h ((s == optimistic_stamp (units l) c.write_count) && (c.writers == 0)) (λ _. stays)
    (λ _. stays)))
rows_go l c range within IsWriteLocked h may m = stays
rows_go l c range within IsReadLocked h may m = stays
rows_go l c range within ReadCount h may m = stays
rows_go l c range within _ h may m = absurd may

pub row_goes : (limits : Bounds) (c : Counts) → AreInRange limits → CountsAreWithin limits c → (call : Call)
    (h : Held) → MayCall call h → MatchesAt limits c h → (t : Transition) → row limits c call ≡ Some t →
    Goes limits c h t.appended t.reply
row_goes limits c range within call h may m t e =
    subst (GoesBy limits c h) e (rows_go limits c range within call h may m).goes
