-- Lock and record, taken through the calls of an order.
use Rattle.std.proofs.Common.{◌≡◌, ℕ, ◌+◌, ◌<◌, ◌≤◌, List, [], ◌∷◌, ◌++◌, length, get_or, refl, sym, ◌∙◌, ap, subst}
use Rattle.std.proofs.Common.{arith, Bool, true, false, None, Some}
use Rattle.std.specs.Prelude.{drop, slice_get, IsTrue}
use Rattle.std.specs.Bool.{MatchBool}
use Rattle.std.proofs.lemmas.List.{append_assoc, append-nil, drop_all, drop_more, length-map}
use Rattle.std.proofs.lemmas.Option.{get_or_from_slice_get, slice_get-get_or, slice_get_within}
use Rattle.stamp_core.specs.LockEvent.{LockEvent}
use Rattle.stamp_core.specs.Limits.{Bounds}
use Rattle.stamp_core.specs.Word.{LockWord, IsAdmitted, Represents}
use Rattle.stamp_core.specs.Call.{is_lock_call, call_suits}
use Rattle.stamp_core.specs.Content.{zeros, RecordReplies, content_next}
use Rattle.stamp_core.specs.Transition.{transition}
use Rattle.stamp_core.specs.Decision.{IsTransition}
use Rattle.stamp_core.specs.History.{IsLegalFrom, IsReply, Replies, appended_by}
use Rattle.stamp_core.specs.declared.call.Call.{Call}
use Rattle.stamp_core.specs.declared.reply.Reply.{Reply}
use Rattle.stamp_explain.specs.declared.observed.Observation.{Observation}
use Rattle.stamp_explain.specs.declared.points.OrderedCall.{OrderedCall}
use Rattle.stamp_explain.specs.declared.replaying.State.{State}
use Rattle.stamp_explain.specs.Observed.{ObservedHistory, IsObserved}
use Rattle.stamp_explain.specs.Explained.{Effect, IsEffectOf, IsOrderIn, history_of}
use Rattle.stamp_explain.specs.inner.Points.{IsLinearizationOf, ordered_calls}
use Rattle.stamp_explain.specs.inner.Replaying.{IsStateAfter, RecordAnswers, Takes}
use Rattle.stamp_explain.proofs.Entries.{same_entry}
use Rattle.stamp_explain.proofs.Lists.{at_index, from_map}
use Rattle.stamp_explain.proofs.Replies.{lock_leaves, one_reply, record_appends, suits_some}

-- a call of the lock, by its transition on the word
pub lock_takes : (limits : Bounds) (call : Call) (state : State) (word : LockWord) (reply : Reply) →
    is_lock_call call ≡ true → IsTransition limits state.word call (Some (word, reply)) →
    Takes limits call state (record { word = word; content = state.content }) (Some reply)
lock_takes limits call state word reply lock goes = record {
  after = λ width events content suits at.
      let now = goes.after events at.word in (
        subst (λ (b : Bool). MatchBool b (Replies (transition limits events call) reply)
            (RecordReplies content call reply)) (sym lock) now.1,
        record { word = now.0; held = λ some. at.held some ∙ sym (lock_leaves content call reply lock) },
      );
}

-- and one of the record, by what it holds
pub record_takes : (limits : Bounds) (call : Call) (state : State) (held : List ℕ) (reply : Reply) →
    is_lock_call call ≡ false → RecordAnswers state.content call (Some (held, reply)) →
    Takes limits call state (record { word = state.word; content = held }) (Some reply)
record_takes limits call state held reply guarded answers = record {
  after = λ width events content suits at.
      let same : state.content ≡ content = at.held (suits_some width call guarded suits) in (
        subst (λ (b : Bool). MatchBool b (Replies (transition limits events call) reply)
            (RecordReplies content call reply)) (sym guarded)
            (subst (λ (c : List ℕ). RecordReplies c call reply) same answers.0),
        record {
          word = subst (λ (es : List LockEvent). Represents limits state.word es)
              (sym (record_appends limits events call guarded)) at.word;
          held = λ _. answers.1 ∙ ap (λ (c : List ℕ). content_next c call reply) same;
        },
      );
}

-- the first k calls of an order are taken, each with the reply of its effect, and the others go on from there
pub record HasTaken (h : ObservedHistory) (order : List Effect) (k : ℕ) (state : State) (calls : List OrderedCall) :
    Type 0 where
  pub events : List LockEvent
  pub content : List ℕ
  pub at : IsStateAfter h.limits h.width events content state
  pub left : IsLegalFrom h.limits events content (history_of (drop k order))
  pub are : calls ++ ordered_calls (drop k order) ≡ ordered_calls order

pub taken_none : (h : ObservedHistory) (indices : List ℕ) (state : State) (o : IsOrderIn h indices) →
    IsStateAfter h.limits h.width [] (zeros h.width) state → HasTaken h o.order 0 state []
taken_none h indices state o at = record {
  events = [];
  content = zeros h.width;
  at = at;
  left = o.by.legal;
  are = refl;
}

-- the word is one that the limits admit
pub admits : (h : ObservedHistory) (order : List Effect) (k : ℕ) (state : State) (calls : List OrderedCall)
    (limits : Bounds) → limits ≡ h.limits → HasTaken h order k state calls → IsAdmitted limits state.word
admits h order k state calls limits same has = rw same (record { events = has.events; represented = has.at.word })

-- the effect of the next entry
record IsNext (h : ObservedHistory) (order : List Effect) (k i : ℕ) : Type 0 where
  effect : Effect
  left : drop k order ≡ effect ∷ drop (k + 1) order
  is : IsEffectOf h.entries effect
  index : effect.index ≡ i

next_of : (h : ObservedHistory) (indices : List ℕ) (o : IsOrderIn h indices) (k : ℕ) → k < length indices →
    IsNext h o.order k (get_or indices k 0)
next_of h indices o k lt =
    let found : (x : Effect) × ((slice_get o.order k ≡ Some x) × (x.index ≡ get_or indices k 0)) =
    from_map (λ (x : Effect). x.index) o.order k (get_or indices k 0) (rw o.are (slice_get-get_or indices k 0 lt)) in
    let within : k < length o.order = slice_get_within o.order k found.0 found.1.0 in
    let same : get_or o.order k found.0 ≡ found.0 = get_or_from_slice_get o.order k found.0 found.0 found.1.0 in
    record {
      effect = found.0;
      left = drop_more o.order k found.0 within ∙ ap (λ (x : Effect). x ∷ drop (k + 1) o.order) same;
      is = rw same at (o.by.effects k found.0 within);
      index = found.1.1;
    }

pub next_inside : (h : ObservedHistory) (indices : List ℕ) (o : IsOrderIn h indices) (k : ℕ) → k < length indices →
    get_or indices k 0 < length h.entries
next_inside h indices o k lt =
    let next : IsNext h o.order k (get_or indices k 0) = next_of h indices o k lt in
    rw (← next.index) (slice_get_within h.entries next.effect.index next.effect.entry next.is.is_entry)

-- what its call does after these events and this content
record IsTaken (h : ObservedHistory) (order : List Effect) (k i : ℕ) (e : Observation) (events : List LockEvent)
    (content : List ℕ) : Type 0 where
  effect : Effect
  left : drop k order ≡ effect ∷ drop (k + 1) order
  index : effect.index ≡ i
  suits : IsTrue (call_suits h.width e.call)
  replies : IsReply h.limits events content e.call effect.reply
  goes_on : IsLegalFrom h.limits (events ++ appended_by (transition h.limits events e.call))
      (content_next content e.call effect.reply) (history_of (drop (k + 1) order))

taken_next : (h : ObservedHistory) (indices : List ℕ) (o : IsOrderIn h indices) (k : ℕ) (d : Observation)
    (state : State) (calls : List OrderedCall) → IsObserved h → k < length indices →
    (has : HasTaken h o.order k state calls) → IsTaken h o.order k (get_or indices k 0)
    (get_or h.entries (get_or indices k 0) d) has.events has.content
taken_next h indices o k d state calls observed lt has =
    let i = get_or indices k 0 in
    let e = get_or h.entries i d in
    let next : IsNext h o.order k i = next_of h indices o k lt in
    let there : slice_get h.entries i ≡ Some e = slice_get-get_or h.entries i d (next_inside h indices o k lt) in
    let entry : next.effect.entry ≡ e = same_entry h.entries next.effect i e next.is next.index there in
    let legal : IsLegalFrom h.limits has.events has.content (history_of (next.effect ∷ drop (k + 1) o.order)) =
    rw next.left at has.left in
    record {
      effect = next.effect;
      left = next.left;
      index = next.index;
      suits = at_index (λ (x : Observation). IsTrue (call_suits h.width x.call)) h.entries i e observed.suit there;
      replies = rw entry at legal.0;
      goes_on = rw entry at legal.1;
    }

same_call : (i j : ℕ) (p q : Reply) → i ≡ j → p ≡ q →
    (let t : OrderedCall = record { index = i; reply = p } in t) ≡ record { index = j; reply = q }
same_call i j p q a b = cc

-- it is taken with the reply of its effect
pub taken_more : (h : ObservedHistory) (indices : List ℕ) (o : IsOrderIn h indices) (k : ℕ) (d : Observation)
    (read : List Observation) (limits : Bounds) (state next : State) (reply : Reply) (calls : List OrderedCall) →
    IsObserved h → k < length indices → read ≡ h.entries → limits ≡ h.limits →
    Takes limits (get_or read (get_or indices k 0) d).call state next (Some reply) →
    HasTaken h o.order k state calls →
    HasTaken h o.order (k + 1) next (calls ++ record { index = get_or indices k 0; reply = reply } ∷ [])
taken_more h indices o k d read limits state next reply calls observed lt same bounds takes has =
    let i = get_or indices k 0 in
    let e = get_or h.entries i d in
    let is : IsTaken h o.order k i e has.events has.content = taken_next h indices o k d state calls observed lt has in
    let went = (rw (bounds, same) at takes).after h.width has.events has.content is.suits has.at in
    let found : reply ≡ is.effect.reply = one_reply h.limits has.events has.content e.call reply is.effect.reply went.0
    is.replies in
    record {
      events = has.events ++ appended_by (transition h.limits has.events e.call);
      content = content_next has.content e.call reply;
      at = went.1;
      left = rw found is.goes_on;
      are = append_assoc calls (_ ∷ []) _ ∙
          ap (λ (t : OrderedCall). calls ++ t ∷ ordered_calls (drop (k + 1) o.order))
          (same_call i is.effect.index reply is.effect.reply (sym is.index) found) ∙ rw is.left at has.are;
    }

-- nor does it wait
pub takes_some : (h : ObservedHistory) (indices : List ℕ) (o : IsOrderIn h indices) (k : ℕ) (d : Observation)
    (read : List Observation) (limits : Bounds) (state next : State) (calls : List OrderedCall) →
    IsObserved h → k < length indices → read ≡ h.entries → limits ≡ h.limits →
    Takes limits (get_or read (get_or indices k 0) d).call state next None → HasTaken h o.order k state calls → ⊥
takes_some h indices o k d read limits state next calls observed lt same bounds takes has =
    let is : IsTaken h o.order k (get_or indices k 0) (get_or h.entries (get_or indices k 0) d) has.events
    has.content = taken_next h indices o k d state calls observed lt has in
    (rw (bounds, same) at takes).after h.width has.events has.content is.suits has.at is.effect.reply is.replies

-- all are taken
pub all_taken : (h : ObservedHistory) (indices : List ℕ) (o : IsOrderIn h indices) (k : ℕ) (state : State)
    (calls : List OrderedCall) → length indices ≤ k → HasTaken h o.order k state calls → IsLinearizationOf h calls
all_taken h indices o k state calls over has =
    let none : drop k o.order ≡ [] = drop_all k o.order (omega (
      arith,
      over,
      ap (λ (is : List ℕ). length is) o.are,
      length-map {B = ℕ} o.order (λ (x : Effect). x.index),
    )) in
    record {
      order = o.order;
      explains = o.by;
      are = sym (append-nil calls) ∙ rw none at has.are;
    }
