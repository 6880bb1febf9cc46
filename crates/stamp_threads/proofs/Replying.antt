-- Which kind of reply a call that was made has.
use Rattle.std.proofs.Common.{ℕ, Bool, true, false, Option, None, [], ◌∷◌}
use Rattle.std.proofs.Common.{arith, ◌==◌, ◌&&◌, if◌then◌else◌, ap, sym, ◌∙◌, subst}
use Rattle.std.specs.Prelude.{IsTrue, nat_lt}
use Rattle.std.specs.Bool.{MatchBool}
use Rattle.stamp_core.specs.Limits.{Bounds, units}
use Rattle.stamp_core.specs.LockEvent.{Counts, counts}
use Rattle.stamp_core.specs.LockEvent.LockEvent.{WriteAcquired, WriteReleased, ReadAcquired, ReadReleased}
use Rattle.stamp_core.specs.Call.{is_lock_call}
use Rattle.stamp_core.specs.Content.{zeros}
use Rattle.stamp_core.specs.Stamp.{optimistic_stamp, read_stamp, is_held_write, is_held_read, is_valid}
use Rattle.stamp_core.specs.Transition.{Transition, transition, row, answer, change, yes_where}
use Rattle.stamp_core.specs.Transition.{may_write, next_write, may_read, next_read}
use Rattle.stamp_core.specs.History.{Replies, IsReply, IsLegal, content_from, events_from}
use Rattle.stamp_core.specs.declared.call.Call.{Call}
use Rattle.stamp_core.specs.declared.call.Call.TheVariants.{TryWrite, TryRead, WriteLock, ReadLock}
use Rattle.stamp_core.specs.declared.call.Call.TheVariants.{Optimistic, Validate, UnlockWrite}
use Rattle.stamp_core.specs.declared.call.Call.TheVariants.{UnlockRead, Unlock, ToWrite, ToRead}
use Rattle.stamp_core.specs.declared.call.Call.TheVariants.{ToOptimistic, TryUnlockWrite}
use Rattle.stamp_core.specs.declared.call.Call.TheVariants.{TryUnlockRead, IsWriteLocked}
use Rattle.stamp_core.specs.declared.call.Call.TheVariants.{IsReadLocked, ReadCount, Get, Put}
use Rattle.stamp_core.specs.declared.call.Call.TheVariants.{PutIf}
use Rattle.stamp_core.specs.declared.reply.Reply.{Reply}
use Rattle.stamp_core.specs.declared.reply.Reply.TheVariants.{Stamp, Yes, No, Done, Mismatch}
use Rattle.stamp_core.proofs.StampValidity.{legal_rest}
use Rattle.stamp_threads.specs.PassView.{entry}
use Rattle.stamp_threads.specs.LockLog.{history_in, events_after}
use Rattle.stamp_threads.specs.LockPass.{LockPassView}
use Rattle.stamp_threads.specs.Made.{Made}
use Rattle.stamp_threads.specs.MayReply.{MayReply, IsStampReply, IsSomeStamp, IsTest, IsRelease}
use Rattle.stamp_threads.proofs.LockLogs.{history-append}

at_true : (P Q : Type 0) (b : Bool) → IsTrue b → MatchBool b P Q → P
at_true P Q true is p = p
at_true P Q false is q = cc

-- the reply is the call's after the history before it
pub replies_of : (limits : Bounds) (call : Call) (reply : Reply) (v w : LockPassView) →
    IsTrue (is_lock_call call) → (a : Made limits call reply v w) →
    Replies (transition limits (events_after limits a.log) call) reply
replies_of limits call reply v w lock a =
    let legal = subst (IsLegal limits 0)
    (ap history_in a.known ∙ history-append a.log (entry v.name (call, reply) ∷ []))
    a.consistent.legal.legal in
    let is : IsReply limits (events_from limits [] (history_in a.log))
    (content_from (zeros 0) (history_in a.log)) call reply =
    (legal_rest limits [] (zeros 0) (history_in a.log) ((call, reply) ∷ []) legal).0 in
    at_true _ _ (is_lock_call call) lock is

-- whatever the tests, the reply is of this kind
abbrev Kind : Option Transition → (Reply → Type 0) → Type 0
Kind t Q = (reply : Reply) → Replies t reply → Q reply

try_write_kind : (l : Bounds) (c : Counts) (free : Bool) →
    Kind (if free then change (WriteAcquired ∷ []) (next_write (units l) c) else answer (Stamp 0)) IsStampReply
try_write_kind l c true reply e = (_, sym e)
try_write_kind l c false reply e = (_, sym e)

try_read_kind : (l : Bounds) (c : Counts) (free : Bool) →
    Kind (if free then change (ReadAcquired ∷ []) (next_read (units l) c) else answer (Stamp 0)) IsStampReply
try_read_kind l c true reply e = (_, sym e)
try_read_kind l c false reply e = (_, sym e)

write_kind : (l : Bounds) (c : Counts) (spent free : Bool) →
    Kind (if spent then answer (Stamp 0)
    else if free then change (WriteAcquired ∷ []) (next_write (units l) c)
    else None) IsStampReply
write_kind l c true free reply e = (_, sym e)
write_kind l c false true reply e = (_, sym e)
write_kind l c false false reply e = absurd e

read_kind : (l : Bounds) (c : Counts) (free : Bool) →
    Kind (if free then change (ReadAcquired ∷ []) (next_read (units l) c) else None) IsSomeStamp
read_kind l c true reply e = (_, sym e, omega arith)
read_kind l c false reply e = absurd e

test_kind : (b : Bool) → Kind (yes_where b) IsTest
test_kind true reply e = subst IsTest {x = Yes} e tt
test_kind false reply e = subst IsTest {x = No} e tt

unlock_write_kind : (held : Bool) →
    Kind (if held then change (WriteReleased ∷ []) Done else answer Mismatch) IsRelease
unlock_write_kind true reply e = subst IsRelease {x = Done} e tt
unlock_write_kind false reply e = subst IsRelease {x = Mismatch} e tt

unlock_read_kind : (held : Bool) →
    Kind (if held then change (ReadReleased ∷ []) Done else answer Mismatch) IsRelease
unlock_read_kind true reply e = subst IsRelease {x = Done} e tt
unlock_read_kind false reply e = subst IsRelease {x = Mismatch} e tt

unlock_kind : (written read : Bool) →
    Kind (if written then change (WriteReleased ∷ []) Done
    else if read then change (ReadReleased ∷ []) Done
    else answer Mismatch) IsRelease
unlock_kind true read reply e = subst IsRelease {x = Done} e tt
unlock_kind false true reply e = subst IsRelease {x = Done} e tt
unlock_kind false false reply e = subst IsRelease {x = Mismatch} e tt

to_write_kind : (l : Bounds) (c : Counts) (s : ℕ) (written read free : Bool) →
    Kind (if written then answer (Stamp s)
    else if read then change (ReadReleased ∷ WriteAcquired ∷ []) (next_write (units l) c)
    else if free then change (WriteAcquired ∷ []) (next_write (units l) c)
    else answer (Stamp 0)) IsStampReply
to_write_kind l c s true read free reply e = (_, sym e)
to_write_kind l c s false true free reply e = (_, sym e)
to_write_kind l c s false false true reply e = (_, sym e)
to_write_kind l c s false false false reply e = (_, sym e)

to_read_kind : (l : Bounds) (c : Counts) (s : ℕ) (written read free : Bool) →
    Kind (if written then change (WriteReleased ∷ ReadAcquired ∷ []) (Stamp (read_stamp (units l) c.write_count 1))
    else if read then answer (Stamp s)
    else if free then change (ReadAcquired ∷ []) (next_read (units l) c)
    else answer (Stamp 0)) IsStampReply
to_read_kind l c s true read free reply e = (_, sym e)
to_read_kind l c s false true free reply e = (_, sym e)
to_read_kind l c s false false true reply e = (_, sym e)
to_read_kind l c s false false false reply e = (_, sym e)

to_optimistic_kind : (l : Bounds) (c : Counts) (s : ℕ) (written read free : Bool) →
    Kind (if written then change (WriteReleased ∷ []) (Stamp (optimistic_stamp (units l) c.write_count))
    else if read then change (ReadReleased ∷ []) (Stamp (optimistic_stamp (units l) c.write_count))
    else if free then answer (Stamp s)
    else answer (Stamp 0)) IsStampReply
to_optimistic_kind l c s true read free reply e = (_, sym e)
to_optimistic_kind l c s false true free reply e = (_, sym e)
to_optimistic_kind l c s false false true reply e = (_, sym e)
to_optimistic_kind l c s false false false reply e = (_, sym e)

try_unlock_write_kind : (held : Bool) →
    Kind (if held then change (WriteReleased ∷ []) Yes else answer No) IsTest
try_unlock_write_kind true reply e = subst IsTest {x = Yes} e tt
try_unlock_write_kind false reply e = subst IsTest {x = No} e tt

try_unlock_read_kind : (held : Bool) →
    Kind (if held then change (ReadReleased ∷ []) Yes else answer No) IsTest
try_unlock_read_kind true reply e = subst IsTest {x = Yes} e tt
try_unlock_read_kind false reply e = subst IsTest {x = No} e tt

row_kind : (l : Bounds) (c : Counts) (call : Call) → Kind (row l c call) (MayReply call)
row_kind l c TryWrite reply e = try_write_kind l c (may_write l c) reply e
row_kind l c TryRead reply e = try_read_kind l c (may_read l c) reply e
row_kind l c WriteLock reply e = write_kind l c (c.write_count == l.versions) (may_write l c) reply e
row_kind l c ReadLock reply e = read_kind l c (may_read l c) reply e
row_kind l c Optimistic reply e = (_, sym e)
row_kind l c (Validate s) reply e = test_kind (is_valid (units l) c s) reply e
row_kind l c (UnlockWrite s) reply e = unlock_write_kind (is_held_write (units l) c s) reply e
row_kind l c (UnlockRead s) reply e = unlock_read_kind (is_held_read (units l) c s) reply e
row_kind l c (Unlock s) reply e =
    unlock_kind (is_held_write (units l) c s) (is_held_read (units l) c s) reply e
row_kind l c (ToWrite s) reply e =
    to_write_kind l c s (is_held_write (units l) c s)
    (is_held_read (units l) c s && (c.readers == 1) && nat_lt c.write_count l.versions)
    ((s == optimistic_stamp (units l) c.write_count) && may_write l c) reply e
row_kind l c (ToRead s) reply e =
    to_read_kind l c s (is_held_write (units l) c s) (is_held_read (units l) c s)
    ((s == optimistic_stamp (units l) c.write_count) && may_read l c) reply e
row_kind l c (ToOptimistic s) reply e =
    to_optimistic_kind l c s (is_held_write (units l) c s) (is_held_read (units l) c s)
    ((s == optimistic_stamp (units l) c.write_count) && (c.writers == 0)) reply e
row_kind l c TryUnlockWrite reply e = try_unlock_write_kind (c.writers == 1) reply e
row_kind l c TryUnlockRead reply e = try_unlock_read_kind (nat_lt 0 c.readers) reply e
row_kind l c IsWriteLocked reply e = test_kind (c.writers == 1) reply e
row_kind l c IsReadLocked reply e = test_kind (nat_lt 0 c.readers) reply e
row_kind l c ReadCount reply e = (_, sym e)
row_kind l c Get reply e = absurd e
row_kind l c (Put words) reply e = absurd e
row_kind l c (PutIf expected words) reply e = absurd e

-- a call of the lock that was made has a reply of its kind
pub may_reply : (limits : Bounds) (call : Call) (reply : Reply) (v w : LockPassView) →
    IsTrue (is_lock_call call) → Made limits call reply v w → MayReply call reply
may_reply limits call reply v w lock a =
    row_kind limits (counts (events_after limits a.log)) call reply
    (replies_of limits call reply v w lock a)
