-- An entry's call is the lock's or the record's, and each leaves alone what is the other's.
use Rattle.std.proofs.Common.{◌≡◌, ℕ, ◌<◌, List, [], ◌++◌, refl, sym, ◌∙◌, ap, subst, arith, Bool, true, false}
use Rattle.std.specs.Bool.{MatchBool}
use Rattle.std.specs.Prelude.{◌&&◌, nat_lt}
use Rattle.std.proofs.lemmas.Bool.Decides.{nat_tests}
use Rattle.std.proofs.lemmas.List.{append-nil}
use Rattle.stamp_core.specs.Limits.{Bounds}
use Rattle.stamp_core.specs.LockEvent.{LockEvent}
use Rattle.stamp_core.specs.Transition.{transition}
use Rattle.stamp_core.specs.Call.{is_lock_call, call_suits}
use Rattle.stamp_core.specs.Content.{content_next}
use Rattle.stamp_core.specs.History.{appended_by}
use Rattle.stamp_core.specs.Linearized.{IsAnswered}
use Rattle.stamp_core.specs.declared.entry.Entry.{Entry}
use Rattle.stamp_core.specs.declared.call.Call.{Call}
use Rattle.stamp_core.specs.declared.call.Call.TheVariants.{Get, Put, PutIf}
use Rattle.stamp_core.specs.declared.reply.Reply.{Reply}
use Rattle.stamp_check.specs.inner.LockReplies.{LockReplies, ContentReplies}

pub lock_answer : (limits : Bounds) (width : ℕ) (before : List Entry) (e : Entry) → is_lock_call e.call ≡ true →
    LockReplies limits before e → IsAnswered limits width before e
lock_answer limits width before e lock r = subst
    (λ (b : Bool). MatchBool b (LockReplies limits before e) (ContentReplies width before e)) (sym lock) r

pub lock_answered : (limits : Bounds) (width : ℕ) (before : List Entry) (e : Entry) → is_lock_call e.call ≡ true →
    IsAnswered limits width before e → LockReplies limits before e
lock_answered limits width before e lock r = subst
    (λ (b : Bool). MatchBool b (LockReplies limits before e) (ContentReplies width before e)) lock r

pub record_answer : (limits : Bounds) (width : ℕ) (before : List Entry) (e : Entry) → is_lock_call e.call ≡ false →
    ContentReplies width before e → IsAnswered limits width before e
record_answer limits width before e lock r = subst
    (λ (b : Bool). MatchBool b (LockReplies limits before e) (ContentReplies width before e)) (sym lock) r

pub record_answered : (limits : Bounds) (width : ℕ) (before : List Entry) (e : Entry) → is_lock_call e.call ≡
    false → IsAnswered limits width before e → ContentReplies width before e
record_answered limits width before e lock r =
    subst (λ (b : Bool). MatchBool b (LockReplies limits before e) (ContentReplies width before e)) lock r

-- a call of the lock leaves the content
pub lock_keeps : (content : List ℕ) (call : Call) (reply : Reply) → is_lock_call call ≡ true →
    content_next content call reply ≡ content
lock_keeps content Get reply h = refl
lock_keeps content (Put words) reply h = cc
lock_keeps content (PutIf expected words) reply h = cc
lock_keeps content _ reply h = refl

no_events : (limits : Bounds) (events : List LockEvent) (call : Call) → is_lock_call call ≡ false →
    appended_by (transition limits events call) ≡ []
no_events limits events Get lock = refl
no_events limits events (Put words) lock = refl
no_events limits events (PutIf expected words) lock = refl
no_events limits events _ lock = cc

-- a call of the record leaves the events
pub record_keeps : (limits : Bounds) (events : List LockEvent) (call : Call) → is_lock_call call ≡ false → events ++
    appended_by (transition limits events call) ≡ events
record_keeps limits events call lock = ap (λ (xs : List LockEvent). events ++ xs)
    (no_events limits events call lock) ∙ append-nil events

first_test : (n : ℕ) (b : Bool) → (nat_lt 0 n && b) ≡ true → 0 < n
first_test n b h = grind (arith, nat_tests)

first_and : (a b : Bool) → (a && b) ≡ true → a ≡ true
first_and true b h = refl
first_and false b h = cc

-- a call of the record has a record
pub has_record : (width : ℕ) (call : Call) → is_lock_call call ≡ false → call_suits width call ≡ true → 0 < width
has_record width Get lock suits = grind (arith, nat_tests)
has_record width (Put words) lock suits = first_test width _ suits
has_record width (PutIf expected words) lock suits = first_test width _ (first_and _ _ suits)
has_record width _ lock suits = cc
