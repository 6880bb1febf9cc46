-- Which replies are respelled alike, and which the lock and the record give.
use Rattle.std.proofs.Common.{zero, suc, ◌≡◌, ℕ, ◌<◌, ◌≤◌, List, refl, sym, ◌∙◌, ap, subst, inl}
use Rattle.std.proofs.Common.{inr, arith, Bool, true, false, Option, Some, None}
use Rattle.std.specs.Prelude.{◌↔◌, ◌==◌, not, IsTrue, if◌then◌else◌}
use Rattle.std.proofs.lemmas.Bool.Decides.{nat_tests}
use Rattle.std.specs.Bool.{MatchBool}
use Rattle.stamp_core.specs.LockEvent.{LockEvent, counts, write_count}
use Rattle.stamp_core.specs.Layout.{units_of}
use Rattle.stamp_core.specs.Limits.{Bounds, bounds, AreInRange}
use Rattle.stamp_core.specs.Call.{is_lock_call}
use Rattle.stamp_core.specs.Content.{same_words, content_next, RecordReplies}
use Rattle.stamp_core.specs.Transition.{Transition, row, transition}
use Rattle.stamp_core.specs.History.{Replies, IsReply, appended_by}
use Rattle.stamp_core.specs.declared.layout.Layout.{Layout}
use Rattle.stamp_core.specs.declared.layout.Layout.TheVariants.{One}
use Rattle.stamp_core.specs.declared.call.Call.{Call}
use Rattle.stamp_core.specs.declared.call.Call.TheVariants.{Get, Put, PutIf}
use Rattle.stamp_core.specs.declared.reply.Reply.{Reply}
use Rattle.stamp_core.specs.declared.reply.Reply.TheVariants.{Stamp, Yes, No, Done, Content}
use Rattle.stamp_check.specs.Migration.{respelling, respelled_call, respelled_reply, widened, CanRespell}
use Rattle.stamp_check.proofs.RespelledStamps.{Respells, IsForeign, respells}
use Rattle.stamp_check.proofs.RespelledStamps.Respells.{writes, reads, foreign}
use Rattle.stamp_check.proofs.RespelledRows.{write_can, read_can, optimistic_can, AreAlike}
use Rattle.stamp_check.proofs.RespelledRows.{row_alike, respelled_transition, CanRespellReply}

-- a foreign number among those that can be respelled is the stamp of failure
zero_of : (s t : ℕ) → IsForeign s t → CanRespell (Stamp s) → s ≡ 0
zero_of s t f (inl nothing) = nothing
zero_of s t f (inr (k, (most, stamp))) = absurd (f.none k most stamp)

-- what is respelled to a stamp can be
pub can_respell : (s : ℕ) → (respelling s ≡ 0 → ⊥) → CanRespell (Stamp s)
can_respell s some = by (respelling s) (respells s) some
  where
    by : (t : ℕ) → Respells s t → (t ≡ 0 → ⊥) → CanRespell (Stamp s)
    by t (writes k w) some = write_can k s w.some w.most w.narrow_is
    by t (reads k zero r) some = optimistic_can k s r.most (omega (arith, r.narrow_is))
    by t (reads k (suc c) r) some = read_can k (suc c) s (omega arith) r.few r.most r.narrow_is
    by t (foreign f) some = absurd (some f.zero)

pub respelled_some : (s : ℕ) → CanRespell (Stamp s) → (s ≡ 0 → ⊥) → respelling s ≡ 0 → ⊥
respelled_some s can some = by (respelling s) (respells s)
  where
    by : (t : ℕ) → Respells s t → t ≡ 0 → ⊥
    by t (writes k w) e = omega (arith, w.wide_is)
    by t (reads k c r) e = omega (arith, r.wide_is)
    by t (foreign f) e = some (zero_of s t f can)

same_stamp : (s t n : ℕ) → Respells s n → Respells t n → CanRespell (Stamp s) → CanRespell (Stamp t) → s ≡ t
same_stamp s t n (writes k w) (writes j v) a b = omega (arith, w.narrow_is, w.wide_is, v.narrow_is, v.wide_is)
same_stamp s t n (writes k w) (reads j d r) a b = absurd (omega (arith, w.wide_is, r.wide_is, r.few))
same_stamp s t n (writes k w) (foreign f) a b = absurd (omega (arith, w.wide_is, f.zero))
same_stamp s t n (reads k c r) (writes j w) a b = absurd (omega (arith, w.wide_is, r.wide_is, r.few))
same_stamp s t n (reads k c r) (reads j d q) a b =
    omega (arith, r.narrow_is, r.wide_is, r.few, q.narrow_is, q.wide_is, q.few)
same_stamp s t n (reads k c r) (foreign f) a b = absurd (omega (arith, r.wide_is, f.zero))
same_stamp s t n (foreign f) (writes j w) a b = absurd (omega (arith, w.wide_is, f.zero))
same_stamp s t n (foreign f) (reads j d r) a b = absurd (omega (arith, r.wide_is, f.zero))
same_stamp s t n (foreign f) (foreign g) a b = zero_of s n f a ∙ sym (zero_of t n g b)

respelled_once : (s t : ℕ) → respelling s ≡ respelling t → CanRespell (Stamp s) → CanRespell (Stamp t) → s ≡ t
respelled_once s t e a b = same_stamp s t (respelling t) (subst (λ (n : ℕ). Respells s n) e (respells s))
    (respells t) a b

stamp_in_reply : (s t : ℕ) → Stamp s ≡ Stamp t → s ≡ t
stamp_in_reply s t e = cc

-- different replies are respelled to different ones
same_reply : (a b : Reply) → CanRespell a → CanRespell b → respelled_reply a ≡ respelled_reply b → a ≡ b
same_reply (Stamp s) (Stamp t) a b e = ap Stamp
    (respelled_once s t (stamp_in_reply (respelling s) (respelling t) e) a b)
same_reply (Stamp s) _ a b e = cc
same_reply _ (Stamp t) a b e = cc
same_reply x y a b e = e

replied_alike : (t u : Option Transition) (reply : Reply) → AreAlike t u → CanRespell reply →
    Replies u (respelled_reply reply) ↔ Replies t reply
replied_alike t u reply alike can = by t u alike.same alike.reply
  where
    by : (t u : Option Transition) → u ≡ respelled_transition t → CanRespellReply t →
        Replies u (respelled_reply reply) ↔ Replies t reply
    by None u e a = subst (λ (x : Option Transition). Replies x (respelled_reply reply) ↔ Replies None reply)
        (sym e) (λ h. h, λ h. h)
    by (Some t) u e a = subst (λ (x : Option Transition). Replies x (respelled_reply reply) ↔
        Replies (Some t) reply) (sym e) (λ h. same_reply t.reply reply a can h, λ h. ap respelled_reply h)

-- the record answers no stamp
other_reply : (reply given : Reply) → ((s : ℕ) → given ≡ Stamp s → ⊥) → (respelled_reply reply ≡ given) ↔
    (reply ≡ given)
other_reply (Stamp s) given other = (λ h. absurd (other (respelling s) (sym h)), λ h. absurd (other s (sym h)))
other_reply reply given other = (λ h. h, λ h. h)

yes_or_no_is_no_stamp : (b : Bool) (s : ℕ) → (if b then Yes else No) ≡ Stamp s → ⊥
yes_or_no_is_no_stamp true s e = cc
yes_or_no_is_no_stamp false s e = cc

record_alike : (content : List ℕ) (call : Call) (reply : Reply) →
    RecordReplies content (respelled_call call) (respelled_reply reply) ↔ RecordReplies content call reply
record_alike content Get reply = other_reply reply (Content content) (λ s e. cc)
record_alike content (Put words) reply = other_reply reply Done (λ s e. cc)
record_alike content (PutIf expected words) reply =
    other_reply reply (if same_words content expected then Yes else No)
    (yes_or_no_is_no_stamp (same_words content expected))
record_alike content _ reply = (λ h. h, λ h. h)

-- what is replied can be respelled
replied_can : (t : Option Transition) (reply : Reply) → CanRespellReply t → Replies t reply → CanRespell reply
replied_can None reply can never = absurd never
replied_can (Some t) reply can is = subst CanRespell is can

yes_or_no_can : (b : Bool) → CanRespell (if b then Yes else No)
yes_or_no_can true = tt
yes_or_no_can false = tt

record_can : (content : List ℕ) (call : Call) (reply : Reply) → RecordReplies content call reply → CanRespell reply
record_can content Get reply is = subst CanRespell (sym is) tt
record_can content (Put words) reply is = subst CanRespell (sym is) tt
record_can content (PutIf expected words) reply is =
    subst CanRespell (sym is) (yes_or_no_can (same_words content expected))
record_can content _ reply never = absurd never

given_by : (b : Bool) {P Q R : Type 0} → (P → R) → (Q → R) → MatchBool b P Q → R
given_by true f g p = f p
given_by false f g q = g q

same_owner : (call : Call) → is_lock_call (respelled_call call) ≡ is_lock_call call
same_owner Get = refl
same_owner _ = refl

either : (b d : Bool) {P Q S T : Type 0} → d ≡ b → S ↔ P → T ↔ Q → MatchBool d S T ↔ MatchBool b P Q
either true true e f g = f
either true false e f g = cc
either false true e f g = cc
either false false e f g = g

-- what a call leaves in the record
pub content_alike : (content : List ℕ) (call : Call) (reply : Reply) →
    content_next content (respelled_call call) (respelled_reply reply) ≡ content_next content call reply
content_alike content (PutIf expected words) (Stamp s) = refl
content_alike content (PutIf expected words) _ = refl
content_alike content _ reply = refl

few_readers : (limits : Bounds) → limits.layout ≡ One → AreInRange limits → limits.readers ≤ 127
unfolding units_of
few_readers limits one range = subst (λ (l : Layout). limits.readers ≤ (units_of l).readers) one range.readers

transition_alike : (limits : Bounds) (events : List LockEvent) (call : Call) → limits.layout ≡ One →
    AreInRange limits → write_count events < 70368744177662 →
    AreAlike (transition limits events call) (transition (widened limits) events (respelled_call call))
transition_alike limits events call one range room =
    subst (λ (l : Layout). AreAlike (row (bounds l limits.readers limits.versions) (counts events) call)
    (row (widened limits) (counts events) (respelled_call call))) (sym one)
    (row_alike limits.readers limits.versions (counts events) (few_readers limits one range) room call)

same_appended : (t u : Option Transition) → u ≡ respelled_transition t → appended_by u ≡ appended_by t
same_appended None u e = ap appended_by e
same_appended (Some t) u e = ap appended_by e

-- what a call is answered and appends, where layout 2 has the version
pub record GoesAlike (limits : Bounds) (events : List LockEvent) (call : Call) : Type 0 where
  pub appended : appended_by (transition (widened limits) events (respelled_call call)) ≡
      appended_by (transition limits events call)
  pub few : write_count (appended_by (transition limits events call)) ≤ 1
  pub replies : (content : List ℕ) (reply : Reply) → CanRespell reply →
      IsReply (widened limits) events content (respelled_call call) (respelled_reply reply) ↔
      IsReply limits events content call reply
  pub given : (content : List ℕ) (reply : Reply) → IsReply limits events content call reply → CanRespell reply

pub goes_alike : (limits : Bounds) (events : List LockEvent) (call : Call) → limits.layout ≡ One →
    AreInRange limits → write_count events < 70368744177662 → GoesAlike limits events call
goes_alike limits events call one range room =
    let alike = transition_alike limits events call one range room in
    record {
      appended = same_appended (transition limits events call)
          (transition (widened limits) events (respelled_call call)) alike.same;
      few = alike.few;
      replies = λ content reply can. either (is_lock_call call) (is_lock_call (respelled_call call))
          (same_owner call) (replied_alike (transition limits events call)
          (transition (widened limits) events (respelled_call call)) reply alike can)
          (record_alike content call reply);
      given = λ content reply. given_by (is_lock_call call)
          (replied_can (transition limits events call) reply alike.reply) (record_can content call reply);
    }

-- a stamp can be respelled where the number that it is respelled to is one
pub told_by_number : (s t : ℕ) → (s ≡ 0 → ⊥) → t ≡ respelling s → IsTrue (not (t == 0)) ↔ CanRespell (Stamp s)
told_by_number s t some e = (
  λ h. can_respell s (λ z. zero_fails t h (e ∙ z)),
  λ can. not_zero t (λ z. respelled_some s can some (sym e ∙ z)),
)
  where
    zero_fails : (n : ℕ) → IsTrue (not (n == 0)) → n ≡ 0 → ⊥
    zero_fails n h z = grind (arith, nat_tests)

    not_zero : (n : ℕ) → (n ≡ 0 → ⊥) → IsTrue (not (n == 0))
    not_zero n h = grind (arith, nat_tests)
