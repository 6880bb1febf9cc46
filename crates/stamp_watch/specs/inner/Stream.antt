-- The few bytes of an event, back from it.
use Rattle.std.specs.Prelude.{ℕ, ◌≡◌, List, [], ◌∷◌}
use Rattle.std.proofs.Common.{refl, ap, ◌∙◌}
use Rattle.stamp_core.specs.declared.call.Call.{Call}
use Rattle.stamp_core.specs.declared.call.Call.TheVariants as any
use Rattle.stamp_core.specs.declared.lock_call.LockCall.{LockCall}
use Rattle.stamp_core.specs.declared.lock_call.LockCall.TheVariants as lock
use Rattle.stamp_core.specs.declared.lock_decision.LockReply.{LockReply}
use Rattle.stamp_core.specs.declared.lock_decision.LockReply.TheVariants as own
use Rattle.stamp_core.specs.declared.reply.Reply.{Reply}
use Rattle.stamp_core.specs.declared.reply.Reply.TheVariants as reply
use Rattle.stamp_runs.specs.declared.event.Event.{Event}
use Rattle.stamp_runs.specs.declared.event.Event.TheVariants.{Begins, Returns, Withdraws}
use Rattle.stamp_sets.specs.SmallCall.{call_of, reply_of}
use Rattle.stamp_sets.specs.declared.small_call.SmallCall.{SmallCall}
use Rattle.stamp_sets.specs.declared.small_call.SmallCall.TheVariants as small_call
use Rattle.stamp_sets.specs.declared.small_call.SmallReply.{SmallReply}
use Rattle.stamp_sets.specs.declared.small_call.SmallReply.TheVariants as small_reply
use Rattle.stamp_watch.specs.Stream.{event_of}
use Rattle.stamp_watch.specs.declared.stream_event.FewBytes.{FewBytes}
use Rattle.stamp_watch.specs.declared.stream_event.FewBytes.TheVariants as few
use Rattle.stamp_watch.specs.declared.stream_event.SmallEvent.{SmallEvent}
use Rattle.stamp_watch.specs.declared.stream_event.SmallEvent.TheVariants as small
use Rattle.stamp_watch.specs.Stream.{small_in}

abbrev pub first_word : List ℕ → ℕ
first_word [] = 0
first_word (word ∷ words) = word

-- the call of the lock; one of a record has none
abbrev pub lock_call_of : Call → LockCall
lock_call_of any.TryWrite = lock.TryWrite
lock_call_of any.TryRead = lock.TryRead
lock_call_of any.WriteLock = lock.WriteLock
lock_call_of any.ReadLock = lock.ReadLock
lock_call_of any.Optimistic = lock.Optimistic
lock_call_of (any.Validate s) = lock.Validate s
lock_call_of (any.UnlockWrite s) = lock.UnlockWrite s
lock_call_of (any.UnlockRead s) = lock.UnlockRead s
lock_call_of (any.Unlock s) = lock.Unlock s
lock_call_of (any.ToWrite s) = lock.ToWrite s
lock_call_of (any.ToRead s) = lock.ToRead s
lock_call_of (any.ToOptimistic s) = lock.ToOptimistic s
lock_call_of any.TryUnlockWrite = lock.TryUnlockWrite
lock_call_of any.TryUnlockRead = lock.TryUnlockRead
lock_call_of any.IsWriteLocked = lock.IsWriteLocked
lock_call_of any.IsReadLocked = lock.IsReadLocked
lock_call_of any.ReadCount = lock.ReadCount
lock_call_of _ = lock.TryWrite

-- the reply of the lock; words have none
abbrev pub lock_reply_of : Reply → LockReply
lock_reply_of (reply.Stamp s) = own.Stamp s
lock_reply_of reply.Yes = own.Yes
lock_reply_of reply.No = own.No
lock_reply_of reply.Done = own.Done
lock_reply_of reply.Mismatch = own.Mismatch
lock_reply_of (reply.Count n) = own.Count n
lock_reply_of _ = own.Done

-- a call and a reply whose contents have one word each
abbrev pub small_call_of : Call → SmallCall
small_call_of any.Get = small_call.Get
small_call_of (any.Put words) = small_call.Put (first_word words)
small_call_of (any.PutIf expected words) = small_call.PutIf (first_word expected) (first_word words)
small_call_of call = small_call.OfLock (lock_call_of call)

abbrev pub small_reply_of : Reply → SmallReply
small_reply_of (reply.Content words) = small_reply.Content (first_word words)
small_reply_of answer = small_reply.OfLock (lock_reply_of answer)

abbrev pub small_of : Event → SmallEvent
small_of (Begins lane call) = small.Begins lane (small_call_of call)
small_of (Returns lane reply) = small.Returns lane (small_reply_of reply)
small_of (Withdraws lane) = small.Withdraws lane

call_again : (call : SmallCall) → small_call_of (call_of call) ≡ call
call_again (small_call.OfLock lock.TryWrite) = refl
call_again (small_call.OfLock lock.TryRead) = refl
call_again (small_call.OfLock lock.WriteLock) = refl
call_again (small_call.OfLock lock.ReadLock) = refl
call_again (small_call.OfLock lock.Optimistic) = refl
call_again (small_call.OfLock (lock.Validate s)) = refl
call_again (small_call.OfLock (lock.UnlockWrite s)) = refl
call_again (small_call.OfLock (lock.UnlockRead s)) = refl
call_again (small_call.OfLock (lock.Unlock s)) = refl
call_again (small_call.OfLock (lock.ToWrite s)) = refl
call_again (small_call.OfLock (lock.ToRead s)) = refl
call_again (small_call.OfLock (lock.ToOptimistic s)) = refl
call_again (small_call.OfLock lock.TryUnlockWrite) = refl
call_again (small_call.OfLock lock.TryUnlockRead) = refl
call_again (small_call.OfLock lock.IsWriteLocked) = refl
call_again (small_call.OfLock lock.IsReadLocked) = refl
call_again (small_call.OfLock lock.ReadCount) = refl
call_again small_call.Get = refl
call_again (small_call.Put n) = refl
call_again (small_call.PutIf e n) = refl

reply_again : (answer : SmallReply) → small_reply_of (reply_of answer) ≡ answer
reply_again (small_reply.OfLock (own.Stamp s)) = refl
reply_again (small_reply.OfLock own.Yes) = refl
reply_again (small_reply.OfLock own.No) = refl
reply_again (small_reply.OfLock own.Done) = refl
reply_again (small_reply.OfLock own.Mismatch) = refl
reply_again (small_reply.OfLock (own.Count n)) = refl
reply_again (small_reply.Content n) = refl

small_again : (event : SmallEvent) → small_of (event_of event) ≡ event
small_again (small.Begins lane call) = ap (λ (c : SmallCall). small.Begins lane c) (call_again call)
small_again (small.Returns lane reply) = ap (λ (r : SmallReply). small.Returns lane r) (reply_again reply)
small_again (small.Withdraws lane) = refl

-- and back
abbrev pub bytes_of : SmallEvent → FewBytes
bytes_of (small.Begins lane (small_call.OfLock call)) = few.BeginsOfLock lane call
bytes_of (small.Begins lane small_call.Get) = few.BeginsGet lane
bytes_of (small.Begins lane (small_call.Put number)) = few.BeginsPut lane number
bytes_of (small.Begins lane (small_call.PutIf expected number)) = few.BeginsPutIf lane expected number
bytes_of (small.Returns lane (small_reply.OfLock answer)) = few.ReturnsOfLock lane answer
bytes_of (small.Returns lane (small_reply.Content number)) = few.ReturnsContent lane number
bytes_of (small.Withdraws lane) = few.Withdraws lane

abbrev pub few_of : Event → FewBytes
few_of event = bytes_of (small_of event)

bytes_again : (bytes : FewBytes) → bytes_of (small_in bytes) ≡ bytes
bytes_again (few.BeginsOfLock lane call) = refl
bytes_again (few.BeginsGet lane) = refl
bytes_again (few.BeginsPut lane number) = refl
bytes_again (few.BeginsPutIf lane expected number) = refl
bytes_again (few.ReturnsOfLock lane answer) = refl
bytes_again (few.ReturnsContent lane number) = refl
bytes_again (few.Withdraws lane) = refl

pub few_back : (bytes : FewBytes) → few_of (event_of (small_in bytes)) ≡ bytes
few_back bytes = ap bytes_of (small_again (small_in bytes)) ∙ bytes_again bytes
