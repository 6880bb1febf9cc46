-- As many seats hold read mode, and write mode, as the lock counts readers and writers; and so it stays, whatever
-- a seat does.
use Rattle.std.proofs.Common.{◌≡◌, ℕ, ◌+◌, List, [], ◌∷◌, set, arith}
use Rattle.std.specs.Prelude.{if◌then◌else◌, count_by}
use Rattle.stamp_core.specs.Limits.{Bounds}
use Rattle.stamp_core.specs.LockEvent.{LockEvent, Counts}
use Rattle.stamp_core.specs.LockEvent.LockEvent.{WriteAcquired, WriteReleased, ReadAcquired, ReadReleased}
use Rattle.stamp_core.specs.Decoded.{after_events}
use Rattle.stamp_core.specs.declared.reply.Reply.{Reply}
use Rattle.stamped_value.specs.declared.view.Held.{Held}
use Rattle.stamped_value.specs.Held.{is_writing}
use Rattle.stamped_value.specs.inner.Held.{is_reading}
use Rattle.stamped_value.proofs.Going.{Goes, held_after}
use Rattle.stamped_value.proofs.Counted.{count_by-set}
use mathlib.Core.Option.{some}
use lib.ListN.{get_elem?}

-- the counts change as the seat's own mode does
record Shifts (c d : Counts) (before after : Held) : Type 0 where
  readers : d.readers + (if is_reading before then 1 else 0) ≡ c.readers + (if is_reading after then 1 else 0)
  writers : d.writers + (if is_writing before then 1 else 0) ≡ c.writers + (if is_writing after then 1 else 0)

shifts : (limits : Bounds) (c : Counts) (h : Held) (appended : List LockEvent) (reply : Reply) →
    Goes limits c h appended reply → Shifts c (after_events c appended) h (held_after appended reply h)
shifts limits c h [] reply goes = record { readers = omega arith; writers = omega arith }
shifts limits c h (WriteAcquired ∷ []) reply goes =
    rw (goes.1, goes.2) (record { readers = omega arith; writers = omega arith })
shifts limits c h (ReadAcquired ∷ []) reply goes =
    rw (goes.1, goes.2) (record { readers = omega arith; writers = omega arith })
shifts limits c h (WriteReleased ∷ []) reply goes =
    rw goes.1 (record { readers = omega arith; writers = omega arith })
shifts limits c h (ReadReleased ∷ []) reply goes =
    rw goes.1 (record { readers = omega arith; writers = omega arith })
shifts limits c h (ReadReleased ∷ WriteAcquired ∷ []) reply goes =
    rw (goes.2, goes.3) (record { readers = omega arith; writers = omega arith })
shifts limits c h (WriteReleased ∷ ReadAcquired ∷ []) reply goes =
    rw (goes.2, goes.3) (record { readers = omega arith; writers = omega arith })
shifts limits c h _ reply goes = absurd goes

module _ {V : Type 0} (held : V → Held) where
  -- how many of these hold each mode
  abbrev pub readers_in : List V → ℕ
  readers_in vs = count_by (λ (v : V). is_reading (held v)) vs

  abbrev pub writers_in : List V → ℕ
  writers_in vs = count_by (λ (v : V). is_writing (held v)) vs

  pub counted_still : (limits : Bounds) (c : Counts) (vs : List V) → readers_in vs ≡ c.readers →
      writers_in vs ≡ c.writers → (i : ℕ) (v w : V) → get_elem? vs i ≡ some v → (appended : List LockEvent)
      (reply : Reply) → Goes limits c (held v) appended reply → held w ≡ held_after appended reply (held v) →
      (readers_in (set vs i w) ≡ (after_events c appended).readers) ×
      (writers_in (set vs i w) ≡ (after_events c appended).writers)
  counted_still limits c vs readers writers i v w here appended reply goes becomes =
      let now = rw (← becomes) at (shifts limits c (held v) appended reply goes) in
      let r = count_by-set (λ (x : V). is_reading (held x)) vs i v w here in
      let k = count_by-set (λ (x : V). is_writing (held x)) vs i v w here in
      (omega (arith, now.readers, r), omega (arith, now.writers, k))
