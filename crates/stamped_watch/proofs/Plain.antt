-- Events that tell no content.
use Rattle.std.proofs.Common.{ℕ, ◌≡◌, ◌≢◌, ◌+◌, ◌*◌, ◌≤◌, true, Some, refl, sym, arith, length-append}
use Rattle.std.proofs.lemmas.List.{length-replicate}
use Rattle.stamp_core.specs.Call.{is_lock_call}
use Rattle.stamp_core.specs.Content.{zeros}
use Rattle.stamp_core.specs.LockCall.{call_as}
use Rattle.stamp_core.specs.LockDecision.{reply_as}
use Rattle.stamp_core.specs.declared.call.Call.{Call}
use Rattle.stamp_core.specs.declared.call.Call.TheVariants as told
use Rattle.stamp_core.specs.declared.call.Call.TheVariants.{Get}
use Rattle.stamp_core.specs.declared.lock_call.LockCall.{LockCall}
use Rattle.stamp_core.specs.declared.lock_call.LockCall.TheVariants as call
use Rattle.stamp_core.specs.declared.lock_decision.LockReply.{LockReply}
use Rattle.stamp_core.specs.declared.lock_decision.LockReply.TheVariants as reply
use Rattle.stamp_core.specs.declared.reply.Reply.TheVariants as any
use Rattle.stamp_runs.specs.declared.event.Event.{Event}
use Rattle.stamp_runs.specs.declared.event.Event.TheVariants.{Begins, Returns, Withdraws}
use Rattle.stamped_watch.specs.EventBytes.{IsOfWidth, call_kind, is_of_lock, kind_of, number_of, reply_kind, size_of}
use Rattle.stamped_watch.specs.inner.EventBytes.{IsLongerAs}
use Rattle.stamped_watch.specs.EventBytes.{IsPlain}

pub begins_plain : (lane : ℕ) (c : LockCall) → IsPlain (Begins lane (call_as c))
begins_plain lane call.TryWrite =
    record { no_words = refl; by_name = λ names. refl; named = λ contents. tt }
begins_plain lane call.TryRead =
    record { no_words = refl; by_name = λ names. refl; named = λ contents. tt }
begins_plain lane call.WriteLock =
    record { no_words = refl; by_name = λ names. refl; named = λ contents. tt }
begins_plain lane call.ReadLock =
    record { no_words = refl; by_name = λ names. refl; named = λ contents. tt }
begins_plain lane call.Optimistic =
    record { no_words = refl; by_name = λ names. refl; named = λ contents. tt }
begins_plain lane (call.Validate s) =
    record { no_words = refl; by_name = λ names. refl; named = λ contents. tt }
begins_plain lane (call.UnlockWrite s) =
    record { no_words = refl; by_name = λ names. refl; named = λ contents. tt }
begins_plain lane (call.UnlockRead s) =
    record { no_words = refl; by_name = λ names. refl; named = λ contents. tt }
begins_plain lane (call.Unlock s) =
    record { no_words = refl; by_name = λ names. refl; named = λ contents. tt }
begins_plain lane (call.ToWrite s) =
    record { no_words = refl; by_name = λ names. refl; named = λ contents. tt }
begins_plain lane (call.ToRead s) =
    record { no_words = refl; by_name = λ names. refl; named = λ contents. tt }
begins_plain lane (call.ToOptimistic s) =
    record { no_words = refl; by_name = λ names. refl; named = λ contents. tt }
begins_plain lane call.TryUnlockWrite =
    record { no_words = refl; by_name = λ names. refl; named = λ contents. tt }
begins_plain lane call.TryUnlockRead =
    record { no_words = refl; by_name = λ names. refl; named = λ contents. tt }
begins_plain lane call.IsWriteLocked =
    record { no_words = refl; by_name = λ names. refl; named = λ contents. tt }
begins_plain lane call.IsReadLocked =
    record { no_words = refl; by_name = λ names. refl; named = λ contents. tt }
begins_plain lane call.ReadCount =
    record { no_words = refl; by_name = λ names. refl; named = λ contents. tt }

pub begins_lock : (lane : ℕ) (c : LockCall) → is_of_lock (Begins lane (call_as c)) ≡ true
begins_lock lane call.TryWrite = refl
begins_lock lane call.TryRead = refl
begins_lock lane call.WriteLock = refl
begins_lock lane call.ReadLock = refl
begins_lock lane call.Optimistic = refl
begins_lock lane (call.Validate s) = refl
begins_lock lane (call.UnlockWrite s) = refl
begins_lock lane (call.UnlockRead s) = refl
begins_lock lane (call.Unlock s) = refl
begins_lock lane (call.ToWrite s) = refl
begins_lock lane (call.ToRead s) = refl
begins_lock lane (call.ToOptimistic s) = refl
begins_lock lane call.TryUnlockWrite = refl
begins_lock lane call.TryUnlockRead = refl
begins_lock lane call.IsWriteLocked = refl
begins_lock lane call.IsReadLocked = refl
begins_lock lane call.ReadCount = refl

pub returns_plain : (lane : ℕ) (r : LockReply) → IsPlain (Returns lane (reply_as r))
returns_plain lane (reply.Stamp s) =
    record { no_words = refl; by_name = λ names. refl; named = λ contents. tt }
returns_plain lane reply.Yes =
    record { no_words = refl; by_name = λ names. refl; named = λ contents. tt }
returns_plain lane reply.No =
    record { no_words = refl; by_name = λ names. refl; named = λ contents. tt }
returns_plain lane reply.Done =
    record { no_words = refl; by_name = λ names. refl; named = λ contents. tt }
returns_plain lane reply.Mismatch =
    record { no_words = refl; by_name = λ names. refl; named = λ contents. tt }
returns_plain lane (reply.Count n) =
    record { no_words = refl; by_name = λ names. refl; named = λ contents. tt }

pub returns_lock : (lane : ℕ) (r : LockReply) → is_of_lock (Returns lane (reply_as r)) ≡ true
returns_lock lane (reply.Stamp s) = refl
returns_lock lane reply.Yes = refl
returns_lock lane reply.No = refl
returns_lock lane reply.Done = refl
returns_lock lane reply.Mismatch = refl
returns_lock lane (reply.Count n) = refl

pub withdraws_plain : (lane : ℕ) → IsPlain (Withdraws lane)
withdraws_plain lane = record { no_words = refl; by_name = λ names. refl; named = λ contents. tt }

pub get_plain : (lane : ℕ) → IsPlain (Begins lane Get)
get_plain lane = record { no_words = refl; by_name = λ names. refl; named = λ contents. tt }

-- no event of the lock has this kind, where no call begins and no reply returns by it, and none is withdrawn
pub no_event_of : (kind : ℕ) → ((c : Call) → is_lock_call c ≡ true → call_kind c ≢ kind) →
    ((r : LockReply) → reply_kind (reply_as r) ≢ kind) → kind ≢ 48 → (e : Event) → is_of_lock e ≡ true →
    kind_of e ≢ kind
no_event_of kind calls replies other (Begins lane c) is = calls c is
no_event_of kind calls replies other (Returns lane (any.Content words)) is = absurd (cc)
no_event_of kind calls replies other (Returns lane (any.Stamp s)) is = replies (reply.Stamp s)
no_event_of kind calls replies other (Returns lane any.Yes) is = replies reply.Yes
no_event_of kind calls replies other (Returns lane any.No) is = replies reply.No
no_event_of kind calls replies other (Returns lane any.Done) is = replies reply.Done
no_event_of kind calls replies other (Returns lane any.Mismatch) is = replies reply.Mismatch
no_event_of kind calls replies other (Returns lane (any.Count n)) is = replies (reply.Count n)
no_event_of kind calls replies other (Withdraws lane) is = λ same. other (sym same)

pub longer_put_each : (width : ℕ) (e : Event) → IsOfWidth (Some width) e → kind_of e ≡ 18 →
    (size_of e ≡ 16 + 8 * width) × (number_of e ≡ 0)
longer_put_each width (Begins lane told.TryWrite) fits same = absurd (omega (arith, same))
longer_put_each width (Begins lane told.TryRead) fits same = absurd (omega (arith, same))
longer_put_each width (Begins lane told.WriteLock) fits same = absurd (omega (arith, same))
longer_put_each width (Begins lane told.ReadLock) fits same = absurd (omega (arith, same))
longer_put_each width (Begins lane told.Optimistic) fits same = absurd (omega (arith, same))
longer_put_each width (Begins lane (told.Validate s)) fits same = absurd (omega (arith, same))
longer_put_each width (Begins lane (told.UnlockWrite s)) fits same = absurd (omega (arith, same))
longer_put_each width (Begins lane (told.UnlockRead s)) fits same = absurd (omega (arith, same))
longer_put_each width (Begins lane (told.Unlock s)) fits same = absurd (omega (arith, same))
longer_put_each width (Begins lane (told.ToWrite s)) fits same = absurd (omega (arith, same))
longer_put_each width (Begins lane (told.ToRead s)) fits same = absurd (omega (arith, same))
longer_put_each width (Begins lane (told.ToOptimistic s)) fits same = absurd (omega (arith, same))
longer_put_each width (Begins lane told.TryUnlockWrite) fits same = absurd (omega (arith, same))
longer_put_each width (Begins lane told.TryUnlockRead) fits same = absurd (omega (arith, same))
longer_put_each width (Begins lane told.IsWriteLocked) fits same = absurd (omega (arith, same))
longer_put_each width (Begins lane told.IsReadLocked) fits same = absurd (omega (arith, same))
longer_put_each width (Begins lane told.ReadCount) fits same = absurd (omega (arith, same))
longer_put_each width (Begins lane told.Get) fits same = absurd (omega (arith, same))
longer_put_each width (Begins lane (told.Put words)) fits same = (omega (arith, fits), refl)
longer_put_each width (Begins lane (told.PutIf expected words)) fits same = absurd (omega (arith, same))
longer_put_each width (Returns lane (any.Stamp s)) fits same = absurd (omega (arith, same))
longer_put_each width (Returns lane any.Yes) fits same = absurd (omega (arith, same))
longer_put_each width (Returns lane any.No) fits same = absurd (omega (arith, same))
longer_put_each width (Returns lane any.Done) fits same = absurd (omega (arith, same))
longer_put_each width (Returns lane any.Mismatch) fits same = absurd (omega (arith, same))
longer_put_each width (Returns lane (any.Count n)) fits same = absurd (omega (arith, same))
longer_put_each width (Returns lane (any.Content words)) fits same = absurd (omega (arith, same))
longer_put_each width (Withdraws lane) fits same = absurd (omega (arith, same))

pub longer_put : (width lane : ℕ) → 1 ≤ width → IsLongerAs (Some width) 18 lane (8 * width)
longer_put width lane some = record {
  one = Begins lane (told.Put (zeros width));
  fits = length-replicate width 0;
  kind_is = refl;
  lane_is = refl;
  some = omega (arith, some);
  each = longer_put_each width;
}

pub longer_put_if_each : (width : ℕ) (e : Event) → IsOfWidth (Some width) e → kind_of e ≡ 19 →
    (size_of e ≡ 16 + 16 * width) × (number_of e ≡ 0)
longer_put_if_each width (Begins lane told.TryWrite) fits same = absurd (omega (arith, same))
longer_put_if_each width (Begins lane told.TryRead) fits same = absurd (omega (arith, same))
longer_put_if_each width (Begins lane told.WriteLock) fits same = absurd (omega (arith, same))
longer_put_if_each width (Begins lane told.ReadLock) fits same = absurd (omega (arith, same))
longer_put_if_each width (Begins lane told.Optimistic) fits same = absurd (omega (arith, same))
longer_put_if_each width (Begins lane (told.Validate s)) fits same = absurd (omega (arith, same))
longer_put_if_each width (Begins lane (told.UnlockWrite s)) fits same = absurd (omega (arith, same))
longer_put_if_each width (Begins lane (told.UnlockRead s)) fits same = absurd (omega (arith, same))
longer_put_if_each width (Begins lane (told.Unlock s)) fits same = absurd (omega (arith, same))
longer_put_if_each width (Begins lane (told.ToWrite s)) fits same = absurd (omega (arith, same))
longer_put_if_each width (Begins lane (told.ToRead s)) fits same = absurd (omega (arith, same))
longer_put_if_each width (Begins lane (told.ToOptimistic s)) fits same = absurd (omega (arith, same))
longer_put_if_each width (Begins lane told.TryUnlockWrite) fits same = absurd (omega (arith, same))
longer_put_if_each width (Begins lane told.TryUnlockRead) fits same = absurd (omega (arith, same))
longer_put_if_each width (Begins lane told.IsWriteLocked) fits same = absurd (omega (arith, same))
longer_put_if_each width (Begins lane told.IsReadLocked) fits same = absurd (omega (arith, same))
longer_put_if_each width (Begins lane told.ReadCount) fits same = absurd (omega (arith, same))
longer_put_if_each width (Begins lane told.Get) fits same = absurd (omega (arith, same))
longer_put_if_each width (Begins lane (told.Put words)) fits same = absurd (omega (arith, same))
longer_put_if_each width (Begins lane (told.PutIf expected words)) fits same =
    ((let long = length-append expected words in omega (arith, fits.0, fits.1, long)), refl)
longer_put_if_each width (Returns lane (any.Stamp s)) fits same = absurd (omega (arith, same))
longer_put_if_each width (Returns lane any.Yes) fits same = absurd (omega (arith, same))
longer_put_if_each width (Returns lane any.No) fits same = absurd (omega (arith, same))
longer_put_if_each width (Returns lane any.Done) fits same = absurd (omega (arith, same))
longer_put_if_each width (Returns lane any.Mismatch) fits same = absurd (omega (arith, same))
longer_put_if_each width (Returns lane (any.Count n)) fits same = absurd (omega (arith, same))
longer_put_if_each width (Returns lane (any.Content words)) fits same = absurd (omega (arith, same))
longer_put_if_each width (Withdraws lane) fits same = absurd (omega (arith, same))

pub longer_put_if : (width lane : ℕ) → 1 ≤ width → IsLongerAs (Some width) 19 lane (16 * width)
longer_put_if width lane some = record {
  one = Begins lane (told.PutIf (zeros width) (zeros width));
  fits = (length-replicate width 0, length-replicate width 0);
  kind_is = refl;
  lane_is = refl;
  some = omega (arith, some);
  each = longer_put_if_each width;
}

pub longer_content_each : (width : ℕ) (e : Event) → IsOfWidth (Some width) e → kind_of e ≡ 38 →
    (size_of e ≡ 16 + 8 * width) × (number_of e ≡ 0)
longer_content_each width (Begins lane told.TryWrite) fits same = absurd (omega (arith, same))
longer_content_each width (Begins lane told.TryRead) fits same = absurd (omega (arith, same))
longer_content_each width (Begins lane told.WriteLock) fits same = absurd (omega (arith, same))
longer_content_each width (Begins lane told.ReadLock) fits same = absurd (omega (arith, same))
longer_content_each width (Begins lane told.Optimistic) fits same = absurd (omega (arith, same))
longer_content_each width (Begins lane (told.Validate s)) fits same = absurd (omega (arith, same))
longer_content_each width (Begins lane (told.UnlockWrite s)) fits same = absurd (omega (arith, same))
longer_content_each width (Begins lane (told.UnlockRead s)) fits same = absurd (omega (arith, same))
longer_content_each width (Begins lane (told.Unlock s)) fits same = absurd (omega (arith, same))
longer_content_each width (Begins lane (told.ToWrite s)) fits same = absurd (omega (arith, same))
longer_content_each width (Begins lane (told.ToRead s)) fits same = absurd (omega (arith, same))
longer_content_each width (Begins lane (told.ToOptimistic s)) fits same = absurd (omega (arith, same))
longer_content_each width (Begins lane told.TryUnlockWrite) fits same = absurd (omega (arith, same))
longer_content_each width (Begins lane told.TryUnlockRead) fits same = absurd (omega (arith, same))
longer_content_each width (Begins lane told.IsWriteLocked) fits same = absurd (omega (arith, same))
longer_content_each width (Begins lane told.IsReadLocked) fits same = absurd (omega (arith, same))
longer_content_each width (Begins lane told.ReadCount) fits same = absurd (omega (arith, same))
longer_content_each width (Begins lane told.Get) fits same = absurd (omega (arith, same))
longer_content_each width (Begins lane (told.Put words)) fits same = absurd (omega (arith, same))
longer_content_each width (Begins lane (told.PutIf expected words)) fits same = absurd (omega (arith, same))
longer_content_each width (Returns lane (any.Stamp s)) fits same = absurd (omega (arith, same))
longer_content_each width (Returns lane any.Yes) fits same = absurd (omega (arith, same))
longer_content_each width (Returns lane any.No) fits same = absurd (omega (arith, same))
longer_content_each width (Returns lane any.Done) fits same = absurd (omega (arith, same))
longer_content_each width (Returns lane any.Mismatch) fits same = absurd (omega (arith, same))
longer_content_each width (Returns lane (any.Count n)) fits same = absurd (omega (arith, same))
longer_content_each width (Returns lane (any.Content words)) fits same = (omega (arith, fits), refl)
longer_content_each width (Withdraws lane) fits same = absurd (omega (arith, same))

pub longer_content : (width lane : ℕ) → 1 ≤ width → IsLongerAs (Some width) 38 lane (8 * width)
longer_content width lane some = record {
  one = Returns lane (any.Content (zeros width));
  fits = length-replicate width 0;
  kind_is = refl;
  lane_is = refl;
  some = omega (arith, some);
  each = longer_content_each width;
}
