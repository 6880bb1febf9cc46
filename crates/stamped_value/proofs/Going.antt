-- What a call of a seat does, by the counts before it.
use Rattle.std.proofs.Common.{◌≡◌, ℕ, ◌<◌, ◌^◌, List, [], ◌∷◌}
use Rattle.stamp_core.specs.Limits.{Bounds}
use Rattle.stamp_core.specs.LockEvent.{LockEvent, Counts}
use Rattle.stamp_core.specs.LockEvent.LockEvent.{WriteAcquired, WriteReleased, ReadAcquired, ReadReleased}
use Rattle.stamp_core.specs.Decoded.{after_events}
use Rattle.stamp_core.specs.declared.reply.Reply.{Reply}
use Rattle.stamp_core.specs.declared.reply.Reply.TheVariants.{Stamp}
use Rattle.stamped_value.specs.declared.view.Held.{Held}
use Rattle.stamped_value.specs.declared.view.Held.TheVariants.{Free, Reading, Writing}
use Rattle.stamped_value.specs.Held.{MatchesAt}

-- a seat that held h appends these events, and is answered this
abbrev pub Goes : Bounds → Counts → Held → List LockEvent → Reply → Type 0
Goes limits c h [] reply = Unit {0}
Goes limits c h (WriteAcquired ∷ []) reply = (s : ℕ) × (reply ≡ Stamp s) × (h ≡ Free) × (c.writers ≡ 0) ×
    (c.readers ≡ 0) × MatchesAt limits (after_events c (WriteAcquired ∷ [])) (Writing s)
Goes limits c h (ReadAcquired ∷ []) reply = (s : ℕ) × (reply ≡ Stamp s) × (h ≡ Free) × (c.writers ≡ 0) ×
    (c.readers < 2 ^ 62) × MatchesAt limits (after_events c (ReadAcquired ∷ [])) (Reading s)
Goes limits c h (WriteReleased ∷ []) reply =
    (s : ℕ) × (h ≡ Writing s) × (c.writers ≡ 1) × (c.readers ≡ 0)
Goes limits c h (ReadReleased ∷ []) reply =
    (s : ℕ) × (h ≡ Reading s) × (c.writers ≡ 0) × (0 < c.readers) × (c.readers < 2 ^ 62)
Goes limits c h (ReadReleased ∷ WriteAcquired ∷ []) reply = (s t : ℕ) × (reply ≡ Stamp t) × (h ≡ Reading s) ×
    (c.writers ≡ 0) × (c.readers ≡ 1) ×
    MatchesAt limits (after_events c (ReadReleased ∷ WriteAcquired ∷ [])) (Writing t)
Goes limits c h (WriteReleased ∷ ReadAcquired ∷ []) reply = (s t : ℕ) × (reply ≡ Stamp t) × (h ≡ Writing s) ×
    (c.writers ≡ 1) × (c.readers ≡ 0) ×
    MatchesAt limits (after_events c (WriteReleased ∷ ReadAcquired ∷ [])) (Reading t)
Goes limits c h _ reply = ⊥

-- what the seat holds by an event of its own: what it acquired by the stamp of the reply, and else none
abbrev pub held_by : LockEvent → Reply → Held
held_by WriteAcquired (Stamp s) = Writing s
held_by ReadAcquired (Stamp s) = Reading s
held_by _ reply = Free

-- the mode after these events; where there are none, the mode as it was
abbrev pub held_after : List LockEvent → Reply → Held → Held
held_after [] reply h = h
held_after (event ∷ appended) reply h = held_after appended reply (held_by event reply)
