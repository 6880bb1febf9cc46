-- Calls of the lock and calls of the record: what each does in a history.
use Rattle.std.proofs.Common.{◌≡◌, ℕ, Bool, true, false, List, ◌++◌, Some, None, if◌then◌else◌}
use Rattle.std.proofs.Common.{refl}
use Rattle.std.specs.Prelude.{IsTrue}
use Rattle.std.proofs.lemmas.List.{append-nil}
use Rattle.stamp_core.specs.LockEvent.{LockEvent}
use Rattle.stamp_core.specs.Limits.{Bounds}
use Rattle.stamp_core.specs.Call.{is_lock_call}
use Rattle.stamp_core.specs.Content.{content_next, same_words}
use Rattle.stamp_core.specs.Transition.{transition}
use Rattle.stamp_core.specs.History.{appended_by, IsReply}
use Rattle.stamp_core.specs.declared.call.Call.{Call}
use Rattle.stamp_core.specs.declared.call.Call.TheVariants.{TryWrite, TryRead, WriteLock, ReadLock}
use Rattle.stamp_core.specs.declared.call.Call.TheVariants.{Optimistic, Validate, UnlockWrite}
use Rattle.stamp_core.specs.declared.call.Call.TheVariants.{UnlockRead, Unlock, ToWrite, ToRead}
use Rattle.stamp_core.specs.declared.call.Call.TheVariants.{ToOptimistic, TryUnlockWrite}
use Rattle.stamp_core.specs.declared.call.Call.TheVariants.{TryUnlockRead, IsWriteLocked}
use Rattle.stamp_core.specs.declared.call.Call.TheVariants.{IsReadLocked, ReadCount, Get, Put}
use Rattle.stamp_core.specs.declared.call.Call.TheVariants.{PutIf}
use Rattle.stamp_core.specs.declared.reply.Reply.{Reply}
use Rattle.stamp_core.specs.declared.reply.Reply.TheVariants.{Yes, No}
use Rattle.stamp_machines.specs.Job.{Job, Getting, Putting, PuttingIf, job_of_call}
use Rattle.stamp_machines.specs.inner.Job.{content_with, reply_to}

-- a call of the lock leaves the content
pub record OfLock (call : Call) : Type 0 where
  pub lock : is_lock_call call ≡ true
  pub content : (content : List ℕ) (r : Reply) → content_next content call r ≡ content

pub of_lock : (call : Call) → job_of_call call ≡ None → OfLock call
of_lock TryWrite e = record { lock = refl; content = λ content r. refl }
of_lock TryRead e = record { lock = refl; content = λ content r. refl }
of_lock WriteLock e = record { lock = refl; content = λ content r. refl }
of_lock ReadLock e = record { lock = refl; content = λ content r. refl }
of_lock Optimistic e = record { lock = refl; content = λ content r. refl }
of_lock (Validate s) e = record { lock = refl; content = λ content r. refl }
of_lock (UnlockWrite s) e = record { lock = refl; content = λ content r. refl }
of_lock (UnlockRead s) e = record { lock = refl; content = λ content r. refl }
of_lock (Unlock s) e = record { lock = refl; content = λ content r. refl }
of_lock (ToWrite s) e = record { lock = refl; content = λ content r. refl }
of_lock (ToRead s) e = record { lock = refl; content = λ content r. refl }
of_lock (ToOptimistic s) e = record { lock = refl; content = λ content r. refl }
of_lock TryUnlockWrite e = record { lock = refl; content = λ content r. refl }
of_lock TryUnlockRead e = record { lock = refl; content = λ content r. refl }
of_lock IsWriteLocked e = record { lock = refl; content = λ content r. refl }
of_lock IsReadLocked e = record { lock = refl; content = λ content r. refl }
of_lock ReadCount e = record { lock = refl; content = λ content r. refl }
of_lock Get e = cc
of_lock (Put words) e = cc
of_lock (PutIf expected words) e = cc

-- a call of the record leaves the events
pub record OfRecord (call : Call) (job : Job) : Type 0 where
  pub answered : (limits : Bounds) (events : List LockEvent) (content : List ℕ) →
      IsReply limits events content call (reply_to content job)
  pub content : (content : List ℕ) →
      content_next content call (reply_to content job) ≡ content_with content job
  pub events : (limits : Bounds) (events : List LockEvent) →
      events ++ appended_by (transition limits events call) ≡ events

get_is : OfRecord Get Getting
get_is = record {
  answered = λ limits events content. refl;
  content = λ content. refl;
  events = λ limits events. append-nil events;
}

put_is : (words : List ℕ) → OfRecord (Put words) (Putting words)
put_is words =
    record {
      answered = λ limits events content. refl;
      content = λ content. refl;
      events = λ limits events. append-nil events;
    }

put_if_is : (expected words : List ℕ) → OfRecord (PutIf expected words) (PuttingIf expected words)
put_if_is expected words =
    record {
      answered = λ limits events content. refl;
      content = λ content. by content (same_words content expected);
      events = λ limits events. append-nil events;
    }
  where
    by : (content : List ℕ) (b : Bool) →
        content_next content (PutIf expected words) (if b then Yes else No)
        ≡ (if b then words else content)
    by content true = refl
    by content false = refl

of_some : (call : Call) (job other : Job) → OfRecord call other → Some other ≡ Some job →
    OfRecord call job
of_some call job other is e = let same : other ≡ job = cc in rw (← same) is

pub of_record : (call : Call) (job : Job) → job_of_call call ≡ Some job → OfRecord call job
of_record TryWrite job e = cc
of_record TryRead job e = cc
of_record WriteLock job e = cc
of_record ReadLock job e = cc
of_record Optimistic job e = cc
of_record (Validate s) job e = cc
of_record (UnlockWrite s) job e = cc
of_record (UnlockRead s) job e = cc
of_record (Unlock s) job e = cc
of_record (ToWrite s) job e = cc
of_record (ToRead s) job e = cc
of_record (ToOptimistic s) job e = cc
of_record TryUnlockWrite job e = cc
of_record TryUnlockRead job e = cc
of_record IsWriteLocked job e = cc
of_record IsReadLocked job e = cc
of_record ReadCount job e = cc
of_record Get job e = of_some Get job Getting get_is e
of_record (Put words) job e = of_some (Put words) job (Putting words) (put_is words) e
of_record (PutIf expected words) job e =
    of_some (PutIf expected words) job (PuttingIf expected words) (put_if_is expected words) e

pub lock_none : (call : Call) → IsTrue (is_lock_call call) → job_of_call call ≡ None
lock_none TryWrite lock = refl
lock_none TryRead lock = refl
lock_none WriteLock lock = refl
lock_none ReadLock lock = refl
lock_none Optimistic lock = refl
lock_none (Validate s) lock = refl
lock_none (UnlockWrite s) lock = refl
lock_none (UnlockRead s) lock = refl
lock_none (Unlock s) lock = refl
lock_none (ToWrite s) lock = refl
lock_none (ToRead s) lock = refl
lock_none (ToOptimistic s) lock = refl
lock_none TryUnlockWrite lock = refl
lock_none TryUnlockRead lock = refl
lock_none IsWriteLocked lock = refl
lock_none IsReadLocked lock = refl
lock_none ReadCount lock = refl
lock_none Get lock = cc
lock_none (Put words) lock = cc
lock_none (PutIf expected words) lock = cc
