-- What the other seats hold goes on matching, whatever a seat does: a reader among them is counted beside it, and
-- where it holds write mode none of them does.
use Rattle.std.proofs.Common.{◌≡◌, ◌≤◌, List, [], ◌∷◌, refl, ap, arith, true}
use Rattle.stamp_core.specs.Limits.{Bounds}
use Rattle.stamp_core.specs.LockEvent.{LockEvent, Counts}
use Rattle.stamp_core.specs.LockEvent.LockEvent.{WriteAcquired, WriteReleased, ReadAcquired, ReadReleased}
use Rattle.stamp_core.specs.IsWellFormed.{CountsAreWithin}
use Rattle.stamp_core.specs.Decoded.{after_events}
use Rattle.stamp_core.specs.declared.reply.Reply.{Reply}
use Rattle.stamped_value.specs.declared.view.Held.{Held}
use Rattle.stamped_value.specs.declared.view.Held.TheVariants.{Free, Reading, Writing}
use Rattle.stamped_value.specs.Held.{MatchesAt, is_writing}
use Rattle.stamped_value.specs.inner.Held.{is_reading}
use Rattle.stamped_value.proofs.Going.{Goes}

pub others_match : (limits : Bounds) (c : Counts) → CountsAreWithin limits c → (h : Held)
    (appended : List LockEvent) (reply : Reply) → Goes limits c h appended reply → (g : Held) →
    MatchesAt limits c g → (is_reading h ≡ true → is_reading g ≡ true → 2 ≤ c.readers) →
    (is_writing h ≡ true → is_writing g ≡ true → ⊥) → MatchesAt limits (after_events c appended) g
others_match limits c within h appended reply goes Free m read write = tt
others_match limits c within h [] reply goes g m read write = m
others_match limits c within h (WriteAcquired ∷ []) reply goes (Reading s) m read write =
    let none = goes.4 in let some = m.1 in absurd (omega arith)
others_match limits c within h (WriteAcquired ∷ []) reply goes (Writing s) m read write =
    let none = goes.3 in let one = m.1 in absurd (omega arith)
others_match limits c within h (ReadAcquired ∷ []) reply goes (Reading s) m read write = (m.0, omega arith)
others_match limits c within h (ReadAcquired ∷ []) reply goes (Writing s) m read write = m
others_match limits c within h (WriteReleased ∷ []) reply goes (Reading s) m read write =
    let none = goes.3 in let some = m.1 in absurd (omega arith)
others_match limits c within h (WriteReleased ∷ []) reply goes (Writing s) m read write =
    absurd (write (ap is_writing goes.1) refl)
others_match limits c within h (ReadReleased ∷ []) reply goes (Reading s) m read write =
    let two = read (ap is_reading goes.1) refl in (m.0, omega arith)
others_match limits c within h (ReadReleased ∷ []) reply goes (Writing s) m read write = m
others_match limits c within h (ReadReleased ∷ WriteAcquired ∷ []) reply goes (Reading s) m read write =
    let one = goes.5 in let two = read (ap is_reading goes.3) refl in absurd (omega arith)
others_match limits c within h (ReadReleased ∷ WriteAcquired ∷ []) reply goes (Writing s) m read write =
    let none = goes.4 in let one = m.1 in absurd (omega arith)
others_match limits c within h (WriteReleased ∷ ReadAcquired ∷ []) reply goes (Reading s) m read write =
    let none = goes.5 in let some = m.1 in absurd (omega arith)
others_match limits c within h (WriteReleased ∷ ReadAcquired ∷ []) reply goes (Writing s) m read write =
    absurd (write (ap is_writing goes.3) refl)
others_match limits c within h _ reply goes g m read write = absurd goes
