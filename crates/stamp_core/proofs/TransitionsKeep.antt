-- Each row of the call table appends events that may come next, and any of them changes the word.
use Rattle.std.proofs.Common.{◌≡◌, ◌≢◌, ℕ, ◌<◌, ◌≤◌, ◌==◌, List, [], ◌∷◌, refl, arith, Bool, true}
use Rattle.std.proofs.Common.{false, Option, Some, None}
use Rattle.std.specs.Prelude.{if◌then◌else◌, ◌&&◌, nat_lt}
use Rattle.std.proofs.lemmas.Bool.Decides.{nat_tests}
use Rattle.std.proofs.lemmas.Bool.{and_parts, eqb-true, ltb-true}
use Rattle.stamp_core.specs.LockEvent.{LockEvent, Counts}
use Rattle.stamp_core.specs.LockEvent.LockEvent.{WriteAcquired, WriteReleased, ReadAcquired, ReadReleased}
use Rattle.stamp_core.specs.Limits.{Bounds, units}
use Rattle.stamp_core.specs.Word.{word_number}
use Rattle.stamp_core.specs.IsWellFormed.{CountsAreWithin}
use Rattle.stamp_core.specs.Stamp.{optimistic_stamp, is_held_write, is_held_read}
use Rattle.stamp_core.specs.Transition.{Transition, row, answer, change, may_write, may_read}
use Rattle.stamp_core.specs.Decoded.{after_events}
use Rattle.stamp_core.proofs.TwoLayouts.{either_layout}
use Rattle.stamp_core.proofs.WellFormedPush.{AllowsAll}
use Rattle.stamp_core.specs.declared.call.Call.{Call}
use Rattle.stamp_core.specs.declared.call.Call.TheVariants.{TryWrite, TryRead, WriteLock, ReadLock}
use Rattle.stamp_core.specs.declared.call.Call.TheVariants.{Optimistic, Validate, UnlockWrite}
use Rattle.stamp_core.specs.declared.call.Call.TheVariants.{UnlockRead, Unlock, ToWrite, ToRead}
use Rattle.stamp_core.specs.declared.call.Call.TheVariants.{ToOptimistic, TryUnlockWrite}
use Rattle.stamp_core.specs.declared.call.Call.TheVariants.{TryUnlockRead, IsWriteLocked}
use Rattle.stamp_core.specs.declared.call.Call.TheVariants.{IsReadLocked, ReadCount, Get, Put}
use Rattle.stamp_core.specs.declared.call.Call.TheVariants.{PutIf}
use Rattle.stamp_core.specs.declared.reply.Reply.{Reply}

-- no event, or allowed ones that change the word
abbrev pub IsAllowed : Bounds → Counts → List LockEvent → Type 0
IsAllowed limits c [] = Unit {0}
IsAllowed limits c (event ∷ appended) = AllowsAll limits c (event ∷ appended) ×
    (word_number (units limits) (after_events c (event ∷ appended)) ≢ word_number (units limits) c)

abbrev pub KeepsBy : Bounds → Counts → Option Transition → Type 0
KeepsBy limits c None = Unit {0}
KeepsBy limits c (Some t) = IsAllowed limits c t.appended

pub record Keeps (limits : Bounds) (c : Counts) (t : Option Transition) : Type 0 where
  pub kept : KeepsBy limits c t

keeps_if : (limits : Bounds) (c : Counts) (b : Bool) {x y : Option Transition} → (b ≡ true → Keeps limits c x) →
    (b ≡ false → Keeps limits c y) → Keeps limits c (if b then x else y)
keeps_if limits c true f g = f refl
keeps_if limits c false f g = g refl

none_keeps : {limits : Bounds} {c : Counts} → Keeps limits c None
none_keeps = record { kept = tt }

stays : {limits : Bounds} {c : Counts} {reply : Reply} → Keeps limits c (answer reply)
stays = record { kept = tt }

moves : {limits : Bounds} {c : Counts} {appended : List LockEvent} {reply : Reply} → IsAllowed limits c appended →
    Keeps limits c (change appended reply)
moves m = record { kept = m }

-- the events of the rows
got_write : (limits : Bounds) (c : Counts) → may_write limits c ≡ true → IsAllowed limits c (WriteAcquired ∷ [])
got_write limits c may = let e = either_layout limits.layout in grind (arith, nat_tests)

got_read : (limits : Bounds) (c : Counts) → may_read limits c ≡ true → IsAllowed limits c (ReadAcquired ∷ [])
got_read limits c may = let e = either_layout limits.layout in grind (arith, nat_tests)

end_write : (limits : Bounds) (c : Counts) → CountsAreWithin limits c → c.writers ≡ 1 →
    IsAllowed limits c (WriteReleased ∷ [])
end_write limits c within writers = let e = either_layout limits.layout in grind (arith, nat_tests)

end_read : (limits : Bounds) (c : Counts) → CountsAreWithin limits c → 0 < c.readers →
    IsAllowed limits c (ReadReleased ∷ [])
end_read limits c within some = let e = either_layout limits.layout in grind (arith, nat_tests)

read_to_write : (limits : Bounds) (c : Counts) → CountsAreWithin limits c → c.readers ≡ 1 →
    c.write_count < limits.versions → IsAllowed limits c (ReadReleased ∷ WriteAcquired ∷ [])
read_to_write limits c within one room = let e = either_layout limits.layout in grind (arith, nat_tests)

write_to_read : (limits : Bounds) (c : Counts) → CountsAreWithin limits c → 1 ≤ limits.readers → c.writers ≡ 1 →
    IsAllowed limits c (WriteReleased ∷ ReadAcquired ∷ [])
write_to_read limits c within some writers = let e = either_layout limits.layout in grind (arith, nat_tests)

pub writer_of : (limits : Bounds) (c : Counts) (s : ℕ) → is_held_write (units limits) c s ≡ true → c.writers ≡ 1
writer_of limits c s held = grind (arith, nat_tests)

pub reader_of : (limits : Bounds) (c : Counts) (s : ℕ) → is_held_read (units limits) c s ≡ true → 0 < c.readers
reader_of limits c s held = grind (arith, nat_tests)

pub sole_reader : (limits : Bounds) (c : Counts) (s : ℕ) →
    (is_held_read (units limits) c s && (c.readers == 1) && nat_lt c.write_count limits.versions) ≡ true →
    (c.readers ≡ 1) × (c.write_count < limits.versions)
sole_reader limits c s held = grind (arith, nat_tests)

-- the rows
pub row_keeps : (limits : Bounds) (c : Counts) → 1 ≤ limits.readers → CountsAreWithin limits c → (call : Call) →
    Keeps limits c (row limits c call)
row_keeps l c some within TryWrite = keeps_if l c (may_write l c) (λ h. moves (got_write l c h)) (λ _. stays)
row_keeps l c some within TryRead = keeps_if l c (may_read l c) (λ h. moves (got_read l c h)) (λ _. stays)
row_keeps l c some within WriteLock =
    keeps_if l c (c.write_count == l.versions) (λ _. stays)
    (λ _. keeps_if l c (may_write l c) (λ h. moves (got_write l c h)) (λ _. none_keeps))
row_keeps l c some within ReadLock = keeps_if l c (may_read l c) (λ h. moves (got_read l c h)) (λ _. none_keeps)
row_keeps l c some within Optimistic = stays
row_keeps l c some within (Validate s) = stays
row_keeps l c some within (UnlockWrite s) =
    keeps_if l c (is_held_write (units l) c s) (λ h. moves (end_write l c within (writer_of l c s h))) (λ _. stays)
row_keeps l c some within (UnlockRead s) =
    keeps_if l c (is_held_read (units l) c s) (λ h. moves (end_read l c within (reader_of l c s h))) (λ _. stays)
row_keeps l c some within (Unlock s) =
    keeps_if l c (is_held_write (units l) c s) (λ h. moves (end_write l c within (writer_of l c s h)))
    (λ _. keeps_if l c (is_held_read (units l) c s) (λ h. moves (end_read l c within (reader_of l c s h)))
    (λ _. stays))
row_keeps l c some within (ToWrite s) =
    keeps_if l c (is_held_write (units l) c s) (λ _. stays)
    (λ _. keeps_if l c (is_held_read (units l) c s && (c.readers == 1) && nat_lt c.write_count l.versions)
    (λ h. moves (read_to_write l c within (sole_reader l c s h).0 (sole_reader l c s h).1))
    (λ _. keeps_if l c ((s == optimistic_stamp (units l) c.write_count) && may_write l c)
    (λ h. moves (got_write l c (and_parts _ _ h).1)) (λ _. stays)))
row_keeps l c some within (ToRead s) =
    keeps_if l c (is_held_write (units l) c s) (λ h. moves (write_to_read l c within some (writer_of l c s h)))
    (λ _. keeps_if l c (is_held_read (units l) c s) (λ _. stays)
    (λ _. keeps_if l c ((s == optimistic_stamp (units l) c.write_count) && may_read l c)
    (λ h. moves (got_read l c (and_parts _ _ h).1)) (λ _. stays)))
row_keeps l c some within (ToOptimistic s) =
    keeps_if l c (is_held_write (units l) c s) (λ h. moves (end_write l c within (writer_of l c s h)))
    (λ _. keeps_if l c (is_held_read (units l) c s) (λ h. moves (end_read l c within (reader_of l c s h)))
    (λ _. keeps_if l c ((s == optimistic_stamp (units l) c.write_count) && (c.writers == 0)) (λ _. stays)
    (λ _. stays)))
row_keeps l c some within TryUnlockWrite =
    keeps_if l c (c.writers == 1) (λ h. moves (end_write l c within (eqb-true c.writers 1 h))) (λ _. stays)
row_keeps l c some within TryUnlockRead =
    keeps_if l c (nat_lt 0 c.readers) (λ h. moves (end_read l c within (ltb-true 0 c.readers h))) (λ _. stays)
row_keeps l c some within IsWriteLocked = stays
row_keeps l c some within IsReadLocked = stays
row_keeps l c some within ReadCount = stays
row_keeps l c some within Get = none_keeps
row_keeps l c some within (Put words) = none_keeps
row_keeps l c some within (PutIf expected words) = none_keeps
