-- The call, the reply and the event of a kind.
use Rattle.std.specs.Prelude.{ℕ, ◌≡◌, ◌≢◌, ◌+◌, ◌≤◌, Option, Some, None, true}
use Rattle.stamp_core.specs.Call.{is_lock_call}
use Rattle.stamp_core.specs.LockDecision.{reply_as}
use Rattle.stamp_core.specs.declared.call.Call.{Call}
use Rattle.stamp_core.specs.declared.lock_decision.LockReply.{LockReply}
use Rattle.stamp_core.specs.declared.reply.Reply.{Reply}
use Rattle.stamp_runs.specs.Run.{lane_of}
use Rattle.stamp_runs.specs.declared.event.Event.{Event}
use Rattle.stamp_core.specs.declared.lock_call.LockCall.{LockCall}
use Rattle.stamp_core.specs.LockCall.{call_as}
use Rattle.stamped_watch.specs.declared.event_bytes.Front.{Front}
use Rattle.stamped_watch.specs.declared.event_bytes.Front.TheVariants.{Whole, Longer}
use Rattle.stamped_watch.specs.EventBytes.{IsOfWidth, call_kind, call_number, is_of_lock, kind_of}
use Rattle.stamped_watch.specs.EventBytes.{number_of, reply_kind, reply_number, size_of}
use Rattle.stamped_watch.specs.EventBytes.{IsPlain}

-- a call of the lock begins by this kind; each that does, and has this number, has the number of this one
abbrev pub IsCallOf : ℕ → ℕ → Option LockCall → Type 0
IsCallOf kind number None = (call : Call) → is_lock_call call ≡ true → call_kind call ≢ kind
IsCallOf kind number (Some found) = (call_kind (call_as found) ≡ kind) ×
    ((call : Call) → call_kind call ≡ kind → call_number call ≡ number → call_number (call_as found) ≡ number)

-- a reply without a content is returned by this kind; each that is, and has this number, has the number of this one
abbrev pub IsReplyOf : ℕ → ℕ → Option LockReply → Type 0
IsReplyOf kind number None = (reply : LockReply) → reply_kind (reply_as reply) ≢ kind
IsReplyOf kind number (Some found) = (reply_kind (reply_as found) ≡ kind) ×
    ((reply : Reply) → reply_kind reply ≡ kind → reply_number reply ≡ number →
    reply_number (reply_as found) ≡ number)

-- an event of the lock has this kind, in this lane; each that has this kind and this number has the number of this one
abbrev pub IsEventOf : ℕ → ℕ → ℕ → Option Event → Type 0
IsEventOf kind lane number None = (e : Event) → is_of_lock e ≡ true → kind_of e ≢ kind
IsEventOf kind lane number (Some found) =
    (is_of_lock found ≡ true) × IsPlain found × (kind_of found ≡ kind) × (lane_of found ≡ lane) ×
    ((e : Event) → kind_of e ≡ kind → number_of e ≡ number → number_of found ≡ number)

abbrev pub front_number : Front → ℕ
front_number (Whole e) = number_of e
front_number (Longer width many) = 0

-- so it is with one that has no words; each of the kind has none, and with this number the number of this one
pub record IsWholeAs (width : Option ℕ) (kind lane number : ℕ) (e : Event) : Type 0 where
  pub fits : IsOfWidth width e
  pub kind_is : kind_of e ≡ kind
  pub lane_is : lane_of e ≡ lane
  pub plain : IsPlain e
  pub numbers : (other : Event) → IsOfWidth width other → kind_of other ≡ kind → number_of other ≡ number →
      number_of e ≡ number

-- and with those that have words of so many bytes
pub record IsLongerAs (width : Option ℕ) (kind lane many : ℕ) : Type 0 where
  pub one : Event
  pub fits : IsOfWidth width one
  pub kind_is : kind_of one ≡ kind
  pub lane_is : lane_of one ≡ lane
  pub some : 1 ≤ many
  pub each : (e : Event) → IsOfWidth width e → kind_of e ≡ kind → (size_of e ≡ 16 + many) × (number_of e ≡ 0)

abbrev pub IsFrontAs : Option ℕ → ℕ → ℕ → ℕ → Option Front → Type 0
IsFrontAs width kind lane number None = (e : Event) → IsOfWidth width e → kind_of e ≢ kind
IsFrontAs width kind lane number (Some (Whole e)) = IsWholeAs width kind lane number e
IsFrontAs width kind lane number (Some (Longer words many)) = (width ≡ Some words) × IsLongerAs width kind lane many
