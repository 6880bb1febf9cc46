-- What lock and record reply, and what a call of the one leaves of the other.
use Rattle.std.proofs.Common.{◌≡◌, ℕ, ◌<◌, Bool, true, false, List, ◌++◌, refl, sym, ◌∙◌, Option, None, Some, arith}
use Rattle.std.specs.Prelude.{IsTrue}
use Rattle.std.specs.Bool.{MatchBool}
use Rattle.std.proofs.lemmas.List.{append-nil}
use Rattle.std.proofs.lemmas.Bool.{true≢false}
use Rattle.std.proofs.lemmas.Bool.Decides.{nat_tests}
use Rattle.stamp_core.specs.LockEvent.{LockEvent}
use Rattle.stamp_core.specs.Limits.{Bounds}
use Rattle.stamp_core.specs.Call.{is_lock_call, call_suits}
use Rattle.stamp_core.specs.Content.{RecordReplies, content_next}
use Rattle.stamp_core.specs.Transition.{Transition, transition}
use Rattle.stamp_core.specs.History.{IsReply, Replies, appended_by}
use Rattle.stamp_core.specs.declared.call.Call.{Call}
use Rattle.stamp_core.specs.declared.call.Call.TheVariants.{Get, Put, PutIf}
use Rattle.stamp_core.specs.declared.reply.Reply.{Reply}

-- lock and record give one reply
one_of_lock : (o : Option Transition) (p q : Reply) → Replies o p → Replies o q → p ≡ q
one_of_lock None p q is also = absurd is
one_of_lock (Some t) p q is also = sym is ∙ also

one_of_record : (content : List ℕ) (call : Call) (p q : Reply) → RecordReplies content call p →
    RecordReplies content call q → p ≡ q
one_of_record content Get p q is also = is ∙ sym also
one_of_record content (Put words) p q is also = is ∙ sym also
one_of_record content (PutIf expected words) p q is also = is ∙ sym also
one_of_record content _ p q is also = absurd is

pub one_reply : (limits : Bounds) (events : List LockEvent) (content : List ℕ) (call : Call) (p q : Reply) →
    IsReply limits events content call p → IsReply limits events content call q → p ≡ q
one_reply limits events content call p q is also = by (is_lock_call call) is also
  where
    by : (b : Bool) → MatchBool b (Replies (transition limits events call) p) (RecordReplies content call p) →
        MatchBool b (Replies (transition limits events call) q) (RecordReplies content call q) → p ≡ q
    by true is also = one_of_lock (transition limits events call) p q is also
    by false is also = one_of_record content call p q is also

-- lock and record do not touch one another
pub lock_leaves : (content : List ℕ) (call : Call) (reply : Reply) → is_lock_call call ≡ true →
    content_next content call reply ≡ content
lock_leaves content Get reply lock = refl
lock_leaves content (Put words) reply lock = absurd (true≢false (sym lock))
lock_leaves content (PutIf expected words) reply lock = absurd (true≢false (sym lock))
lock_leaves content _ reply lock = refl

pub record_appends : (limits : Bounds) (events : List LockEvent) (call : Call) → is_lock_call call ≡ false →
    events ++ appended_by (transition limits events call) ≡ events
record_appends limits events Get guarded = append-nil events
record_appends limits events (Put words) guarded = append-nil events
record_appends limits events (PutIf expected words) guarded = append-nil events
record_appends limits events _ guarded = absurd (true≢false guarded)

-- a call of the record suits only where there is one
pub suits_some : (width : ℕ) (call : Call) → is_lock_call call ≡ false → IsTrue (call_suits width call) → 0 < width
suits_some width Get guarded suits = grind (arith, nat_tests)
suits_some width (Put words) guarded suits = grind (arith, nat_tests)
suits_some width (PutIf expected words) guarded suits = grind (arith, nat_tests)
suits_some width call guarded suits = absurd (grind arith)
