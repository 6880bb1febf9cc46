-- Respelled entries leave the same events and content, and are answered and legal alike.
use Rattle.std.proofs.Common.{◌≡◌, ℕ, ◌+◌, ◌<◌, ◌≤◌, List, [], ◌∷◌, ◌++◌, length, map, refl, sym}
use Rattle.std.proofs.Common.{◌∙◌, ap, subst, arith, cond}
use Rattle.std.specs.Prelude.{◌↔◌}
use Rattle.std.proofs.lemmas.List.Elements.{All-nil, All-cons, All-head, All-tail}
use Rattle.std.proofs.lemmas.List.Sums.{sum_by-append}
use Rattle.stamp_core.specs.LockEvent.{LockEvent, write_count, is_write_acquired}
use Rattle.stamp_core.specs.Limits.{Bounds, AreInRange}
use Rattle.stamp_core.specs.Content.{zeros, content_next}
use Rattle.stamp_core.specs.Transition.{transition}
use Rattle.stamp_core.specs.History.{IsReply, IsLegalFrom, appended_by, content_from, content_after}
use Rattle.stamp_core.specs.History.{events_from, events_of}
use Rattle.stamp_core.specs.Linearized.{history_of, IsAnswered}
use Rattle.stamp_core.specs.declared.entry.Entry.{Entry}
use Rattle.stamp_core.specs.declared.layout.Layout.TheVariants.{One}
use Rattle.stamp_check.specs.Migration.{respelled_call, respelled_reply, respelled_entry, widened}
use Rattle.stamp_check.specs.Migration.{CanRespell, AllCanRespell}
use Rattle.stamp_check.proofs.RespelledReplies.{GoesAlike, goes_alike, content_alike}

writes-append : (xs ys : List LockEvent) → write_count (xs ++ ys) ≡ write_count xs + write_count ys
writes-append xs ys = sum_by-append (λ (x : LockEvent). cond (is_write_acquired x) 1 0) xs ys

carried : {A B : Type 0} (P : A → B → Type 0) {a c : A} {b d : B} → a ≡ c → b ≡ d → P a b → P c d
carried P {a} {c} {b} {d} e f p = subst (λ (y : _). P c y) f (subst (λ (x : _). P x b) e p)

-- the events and the content that entries leave
events_alike : (limits : Bounds) (events : List LockEvent) (es : List Entry) → limits.layout ≡ One →
    AreInRange limits → write_count events + length es ≤ 70368744177662 →
    events_from (widened limits) events (history_of (map respelled_entry es)) ≡
    events_from limits events (history_of es)
events_alike limits events [] one range room = refl
events_alike limits events (e ∷ es) one range room =
    let alike = goes_alike limits events e.call one range (omega arith) in
    let few = alike.few in
    let more = writes-append events (appended_by (transition limits events e.call)) in
    ap (λ (appended : List LockEvent). events_from (widened limits) (events ++ appended)
    (history_of (map respelled_entry es))) alike.appended ∙
    events_alike limits (events ++ appended_by (transition limits events e.call)) es one range (omega arith)

contents_alike : (content : List ℕ) (es : List Entry) → content_from content (history_of (map respelled_entry es)) ≡
    content_from content (history_of es)
contents_alike content [] = refl
contents_alike content (e ∷ es) = ap (λ (next : List ℕ). content_from next (history_of (map respelled_entry es)))
    (content_alike content e.call e.reply) ∙ contents_alike (content_next content e.call e.reply) es

-- they are legal alike
next_alike : (limits : Bounds) (events : List LockEvent) (content : List ℕ) (e : Entry) (es : List Entry) →
    GoesAlike limits events e.call → CanRespell e.reply →
    IsLegalFrom (widened limits) (events ++ appended_by (transition limits events e.call))
    (content_next content e.call e.reply) (history_of (map respelled_entry es)) ↔
    IsLegalFrom limits (events ++ appended_by (transition limits events e.call))
    (content_next content e.call e.reply) (history_of es) →
    IsLegalFrom (widened limits) events content (history_of (map respelled_entry (e ∷ es))) ↔
    IsLegalFrom limits events content (history_of (e ∷ es))
next_alike limits events content e es alike can rest = (
  λ h. (answer.0 h.0, rest.0 (carried From alike.appended (content_alike content e.call e.reply) h.1)),
  λ h. (answer.1 h.0, carried From (sym alike.appended) (sym (content_alike content e.call e.reply)) (rest.1 h.1)),
)
  where
    answer : IsReply (widened limits) events content (respelled_call e.call) (respelled_reply e.reply) ↔
        IsReply limits events content e.call e.reply
    answer = alike.replies content e.reply can

    From : List LockEvent → List ℕ → Type 0
    From appended next = IsLegalFrom (widened limits) (events ++ appended) next (history_of (map respelled_entry es))

pub legal_alike : (limits : Bounds) (events : List LockEvent) (content : List ℕ) (es : List Entry) → limits.layout ≡
    One → AreInRange limits → AllCanRespell es → write_count events + length es ≤ 70368744177662 →
    IsLegalFrom (widened limits) events content (history_of (map respelled_entry es)) ↔
    IsLegalFrom limits events content (history_of es)
legal_alike limits events content [] one range can room = (λ h. tt, λ h. tt)
legal_alike limits events content (e ∷ es) one range can room =
    let alike = goes_alike limits events e.call one range (omega arith) in
    let few = alike.few in
    let more = writes-append events (appended_by (transition limits events e.call)) in
    next_alike limits events content e es alike (All-head (λ (x : Entry). CanRespell x.reply) e es can)
    (legal_alike limits (events ++ appended_by (transition limits events e.call))
    (content_next content e.call e.reply) es one range (All-tail (λ (x : Entry). CanRespell x.reply) e es can)
    (omega arith))

-- legal entries can be respelled
pub legal_can : (limits : Bounds) (events : List LockEvent) (content : List ℕ) (es : List Entry) → limits.layout ≡
    One → AreInRange limits → write_count events + length es ≤ 70368744177662 →
    IsLegalFrom limits events content (history_of es) → AllCanRespell es
legal_can limits events content [] one range room legal = All-nil (λ (x : Entry). CanRespell x.reply)
legal_can limits events content (e ∷ es) one range room legal =
    let alike = goes_alike limits events e.call one range (omega arith) in
    let few = alike.few in
    let more = writes-append events (appended_by (transition limits events e.call)) in
    All-cons (λ (x : Entry). CanRespell x.reply) e es (alike.given content e.reply legal.0)
    (legal_can limits (events ++ appended_by (transition limits events e.call))
    (content_next content e.call e.reply) es one range (omega arith) legal.1)

-- each call acquires write mode once at most
writes_few : (limits : Bounds) (events : List LockEvent) (es : List Entry) → limits.layout ≡ One →
    AreInRange limits → write_count events + length es ≤ 70368744177662 →
    write_count (events_from limits events (history_of es)) ≤ write_count events + length es
writes_few limits events [] one range room = omega arith
writes_few limits events (e ∷ es) one range room =
    let alike = goes_alike limits events e.call one range (omega arith) in
    let few = alike.few in
    let more = writes-append events (appended_by (transition limits events e.call)) in
    omega (
      arith,
      writes_few limits (events ++ appended_by (transition limits events e.call)) es one range
          (omega arith),
    )

-- after those before it an entry is answered alike
pub answered_alike : (limits : Bounds) (width : ℕ) (before : List Entry) (e : Entry) → limits.layout ≡ One →
    AreInRange limits → CanRespell e.reply → length before < 70368744177662 →
    IsAnswered (widened limits) width (map respelled_entry before) (respelled_entry e) ↔
    IsAnswered limits width before e
answered_alike limits width before e one range can room =
    (λ h. answer.0 (carried After events contents h), λ h. carried After (sym events) (sym contents) (answer.1 h))
  where
    After : List LockEvent → List ℕ → Type 0
    After past content = IsReply (widened limits) past content (respelled_call e.call) (respelled_reply e.reply)

    events : events_of (widened limits) (history_of (map respelled_entry before)) ≡
        events_of limits (history_of before)
    events = events_alike limits [] before one range (omega arith)

    contents : content_after width (history_of (map respelled_entry before)) ≡ content_after width (history_of before)
    contents = contents_alike (zeros width) before

    answer : After (events_of limits (history_of before)) (content_after width (history_of before)) ↔
        IsAnswered limits width before e
    answer =
        let few = writes_few limits [] before one range (omega arith) in
        let alike = goes_alike limits (events_of limits (history_of before)) e.call one range (omega arith) in
        alike.replies (content_after width (history_of before)) e.reply can
