-- How many accesses a call makes that is made once.
use Rattle.std.proofs.Common.{◌⊎◌, ℕ, [], ◌∷◌, Result, Ok, Err, IfErr, OnOk, IsOk}
use Rattle.std.proofs.Common.{inl, inr}
use Rattle.stamp_core.specs.Limits.{Bounds}
use Rattle.stamp_core.specs.CountedDecision.{decision}
use Rattle.stamp_core.specs.declared.call.Call.{Call}
use Rattle.stamp_core.specs.declared.call.Call.TheVariants.{Optimistic, Validate}
use Rattle.stamp_core.specs.declared.call.Call.TheVariants.{IsWriteLocked, IsReadLocked, ReadCount}
use Rattle.stamp_core.specs.declared.reply.Reply.{Reply}
use Rattle.stamp_threads.specs.GoesAsMachine.{GoesAsMachine, turn_once}
use Rattle.stamp_threads.specs.LockPass.{LockPassView}
use Rattle.stamp_threads.specs.LostExchange.{LostExchange}
use Rattle.stamp_threads.specs.Made as by_pass
use Rattle.stamp_threads.specs.Made.{try_form}
use Rattle.stamp_threads.specs.PassView.{HasFound}
use Rattle.stamp_threads.specs.declared.lost.Lost.{Lost}
use Rattle.stamped_lock.specs.inner.Replies.{AsksOnly}

-- where it was made, and where its exchange lost
pub once_or_twice : (limits : Bounds) (call : Call) (v w : LockPassView) (r : Result Reply Lost) →
    OnOk r (by_pass.AccessesOnceOrTwice limits v w) →
    IfErr r (λ l. LostExchange limits call l.loaded l.found v w) →
    ((word : ℕ) × HasFound v (word ∷ []) w) ⊎ ((loaded : ℕ) × (found : ℕ) × HasFound v (loaded ∷ found ∷ []) w)
once_or_twice limits call v w (Ok reply) accesses lost =
    elim accesses [ inl one ↦ inl one | inr two ↦ inr (two.loaded, two.found, two.has_found) ]
once_or_twice limits call v w (Err l) accesses lost = inr (l.loaded, l.found, lost.has_found)

-- the machine of a call that only asks ends by its first access
made_once : (limits : Bounds) (call : Call) (v w : LockPassView) (reply : Reply) → AsksOnly call →
    GoesAsMachine limits call v w (turn_once limits call (Ok reply)) → (word : ℕ) × HasFound v (word ∷ []) w
unfolding decision
made_once limits Optimistic v w reply is ([], found, f) = absurd (cc)
made_once limits Optimistic v w reply is (word ∷ [], found, f) = (word, found)
made_once limits Optimistic v w reply is (word ∷ x ∷ xs, found, f) = absurd f
made_once limits (Validate s) v w reply is ([], found, f) = absurd (cc)
made_once limits (Validate s) v w reply is (word ∷ [], found, f) = (word, found)
made_once limits (Validate s) v w reply is (word ∷ x ∷ xs, found, f) = absurd f
made_once limits IsWriteLocked v w reply is ([], found, f) = absurd (cc)
made_once limits IsWriteLocked v w reply is (word ∷ [], found, f) = (word, found)
made_once limits IsWriteLocked v w reply is (word ∷ x ∷ xs, found, f) = absurd f
made_once limits IsReadLocked v w reply is ([], found, f) = absurd (cc)
made_once limits IsReadLocked v w reply is (word ∷ [], found, f) = (word, found)
made_once limits IsReadLocked v w reply is (word ∷ x ∷ xs, found, f) = absurd f
made_once limits ReadCount v w reply is ([], found, f) = absurd (cc)
made_once limits ReadCount v w reply is (word ∷ [], found, f) = (word, found)
made_once limits ReadCount v w reply is (word ∷ x ∷ xs, found, f) = absurd f
made_once limits _ v w reply is machine = absurd is

-- so it makes one access
pub asks_once : (limits : Bounds) (call : Call) (v w : LockPassView) (r : Result Reply Lost) → AsksOnly call →
    IsOk r → GoesAsMachine limits (try_form call) v w (turn_once limits (try_form call) r) →
    (word : ℕ) × HasFound v (word ∷ []) w
asks_once limits call v w (Err lost) is ok machine = absurd (cc)
asks_once limits Optimistic v w (Ok r) is ok machine = made_once limits Optimistic v w r is machine
asks_once limits (Validate s) v w (Ok r) is ok machine = made_once limits (Validate s) v w r is machine
asks_once limits IsWriteLocked v w (Ok r) is ok machine = made_once limits IsWriteLocked v w r is machine
asks_once limits IsReadLocked v w (Ok r) is ok machine = made_once limits IsReadLocked v w r is machine
asks_once limits ReadCount v w (Ok r) is ok machine = made_once limits ReadCount v w r is machine
asks_once limits _ v w r is ok machine = absurd is
