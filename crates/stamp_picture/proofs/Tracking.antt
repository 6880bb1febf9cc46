-- The track through a history.
use Rattle.std.proofs.Common.{◌≡◌, ◌∙◌, ℕ, ◌<◌, List, ◌++◌, Bool, true, false, Option, Some, None, refl, sym, ap}
use Rattle.std.proofs.Common.{subst, arith, inl, inr}
use Rattle.std.specs.Prelude.{if◌then◌else◌, ◌==◌, ◌⊎◌}
use Rattle.std.specs.Prelude.{slice_get}
use Rattle.std.specs.List.{All}
use Rattle.std.proofs.lemmas.Option.{slice_get_within, get_or_from_slice_get}
use Rattle.std.proofs.Common.{length, take, get_or}
use Rattle.stamp_core.specs.Record.{Recorded, EntrySuits}
use Rattle.std.specs.Bool.{MatchBool}
use Rattle.std.proofs.lemmas.List.{append-nil}
use Rattle.stamp_core.specs.LockEvent.{LockEvent, counts, write_count}
use Rattle.stamp_core.specs.Limits.{Bounds}
use Rattle.stamp_core.specs.Word.{LockWord, Represents, HoldsForEvents}
use Rattle.stamp_core.specs.Call.{is_lock_call}
use Rattle.stamp_core.specs.Content.{content_next, RecordReplies}
use Rattle.stamp_core.specs.Transition.{transition}
use Rattle.stamp_core.specs.History.{appended_by, Replies, events_of, content_after}
use Rattle.stamp_core.specs.Linearized.{history_of}
use Rattle.stamp_core.specs.declared.call.Call.{Call}
use Rattle.stamp_core.specs.declared.entry.Entry.{Entry}
use Rattle.stamp_core.specs.declared.reply.Reply.{Reply}
use Rattle.stamp_core.proofs.Linearizing.{events_push, content_push}
use Rattle.stamp_check.proofs.LockOrRecord.{record_keeps, has_record}
use Rattle.stamp_picture.specs.declared.state.Mode.{Mode}
use Rattle.stamp_picture.specs.declared.state.State.{State}
use Rattle.stamp_picture.specs.declared.track.Track.{Track}
use Rattle.stamp_picture.specs.Moment.{mode_of, state_after}
use Rattle.stamp_picture.specs.inner.Moment.{mode_in}
use Rattle.stamp_picture.specs.Due.{DueAfter, IsReplyDue}
use Rattle.stamp_picture.specs.inner.Due.{ContentAnswers}
use Rattle.stamp_picture.specs.inner.Track.{IsTrack, TracksOneMore, Shows, TellsDue}

-- one entry more, whose call leaves this word
pub goes_on : (limits : Bounds) (e : Entry) (track : Track) (word : LockWord) (content : List ℕ) →
    ((events : List LockEvent) → Represents limits track.word events →
    Represents limits word (events ++ appended_by (transition limits events e.call))) →
    content ≡ content_next track.content e.call e.reply →
    TracksOneMore limits e track (record { word = word; content = content })
goes_on limits e track word content moves held = record {
  behind = λ width before after. record {
    range = after.range;
    word = subst (λ (events : List LockEvent). Represents limits word events) (sym (events_push limits before e))
        (moves (events_of limits (history_of before)) after.word);
    content = λ some. held ∙ ap (λ (c : List ℕ). content_next c e.call e.reply) (after.content some)
        ∙ sym (content_push width before e);
  };
}

-- a call without a transition leaves the word, and so does a call of the record
pub waits : (limits : Bounds) (call : Call) (word : LockWord) (events : List LockEvent) →
    Represents limits word events → transition limits events call ≡ None →
    Represents limits word (events ++ appended_by (transition limits events call))
waits limits call word events now none =
    subst (λ (xs : List LockEvent). Represents limits word xs)
    (sym (ap (λ t. events ++ appended_by t) none ∙ append-nil events)) now

pub leaves : (limits : Bounds) (call : Call) (word : LockWord) (events : List LockEvent) → is_lock_call call ≡ false →
    Represents limits word events → Represents limits word (events ++ appended_by (transition limits events call))
leaves limits call word events lock now =
    subst (λ (xs : List LockEvent). Represents limits word xs) (sym (record_keeps limits events call lock)) now

content_shown : (width : ℕ) (a b : List ℕ) → (0 < width → a ≡ b) →
    (if width == 0 then None else Some a) ≡ (if width == 0 then None else Some b)
content_shown width a b same = by (either width)
  where
    either : (n : ℕ) → (n ≡ 0) ⊎ (0 < n)
    either n = grind arith

    by : (width ≡ 0) ⊎ (0 < width) → (if width == 0 then None else Some a) ≡ (if width == 0 then None else Some b)
    by (inl none) = rw none refl
    by (inr some) = rw (same some) refl

-- mode, version and content are those of the events
pub shows : (limits : Bounds) (width : ℕ) (track : Track) (mode : Mode) (version : ℕ) (content : Option (List ℕ)) →
    mode_in limits track.word mode → HoldsForEvents track.word (λ events. version ≡ write_count events) →
    content ≡ (if width == 0 then None else Some track.content) →
    Shows limits width track (record { mode = mode; version = version; content = content })
unfolding state_after
shows limits width track mode version content m v held = record {
  is = λ before after.
      let events = events_of limits (history_of before) in
      let a : mode ≡ mode_of (counts events) = m limits events after.range after.word in
      let b : version ≡ write_count events = v limits events after.range after.word in
      let c = held ∙ content_shown width track.content (content_after width (history_of before)) after.content in
      same mode version content _ _ _ a b c;
}
  where
    same : (m : Mode) (v : ℕ) (c : Option (List ℕ)) (m' : Mode) (v' : ℕ) (c' : Option (List ℕ)) → m ≡ m' →
        v ≡ v' → c ≡ c' → (let s : State = record { mode = m; version = v; content = c } in s) ≡
        record { mode = m'; version = v'; content = c' }
    same m v c m' v' c' a b d = cc

-- what is due to a call of the lock, and of the record
pub lock_due : (limits : Bounds) (events : List LockEvent) (content : List ℕ) (call : Call) (reply : Reply) →
    is_lock_call call ≡ true → Replies (transition limits events call) reply →
    DueAfter limits events content call (Some reply)
lock_due limits events content call reply lock replies = subst
    (λ (b : Bool). MatchBool b (Replies (transition limits events call) reply) (RecordReplies content call reply))
    (sym lock) replies

pub record_due : (limits : Bounds) (track : Track) (call : Call) (due : Option Reply) → is_lock_call call ≡ false →
    ContentAnswers track.content call due → TellsDue limits track call due
record_due limits track call None lock answers = record { is = λ width before after suits. absurd (no lock answers) }
  where
    no : {b : Bool} → b ≡ false → b ≡ true → ⊥
    no f t = cc
record_due limits track call (Some reply) lock answers = record {
  is = λ width before after suits. subst
      (λ (b : Bool). MatchBool b (Replies (transition limits (events_of limits (history_of before)) call) reply)
      (RecordReplies (content_after width (history_of before)) call reply)) (sym lock)
      (subst (λ (held : List ℕ). RecordReplies held call reply)
      (after.content (has_record width call lock suits)) answers);
}

-- the call of the entry at i, and the reply that is due to it
pub due_at : (r : Recorded) (limits : Bounds) (width : ℕ) (entries : List Entry) (i : ℕ) (track : Track) (e : Entry)
    (due : Option Reply) → limits ≡ r.limits → width ≡ r.width → entries ≡ r.entries →
    All (EntrySuits r.width) r.entries → IsTrack limits width (take i entries) track → e ≡ get_or entries i e →
    TellsDue limits track e.call due → (f : Entry) → slice_get r.entries i ≡ Some f →
    (e.call ≡ f.call) × IsReplyDue r.limits r.width (take i r.entries) f.call due
due_at r limits width entries i track e due l w es suit behind is answers f at =
    let lt : i < length r.entries = slice_get_within r.entries i f at in
    let is_f : get_or r.entries i f ≡ f = get_or_from_slice_get r.entries i f f at in
    let is_e : get_or r.entries i e ≡ f = get_or_from_slice_get r.entries i f e at in
    let same : e ≡ f = is ∙ ap (λ (xs : List Entry). get_or xs i e) es ∙ is_e in
    let suits : EntrySuits r.width f = subst (EntrySuits r.width) is_f (suit i f lt) in
    let answers_f : TellsDue r.limits track f.call due =
    subst (λ (b : Bounds). TellsDue b track f.call due) l
    (subst (λ (x : Entry). TellsDue limits track x.call due) same answers) in
    let behind_r : IsTrack r.limits r.width (take i r.entries) track =
    subst (λ (b : Bounds). IsTrack b r.width (take i r.entries) track) l
    (subst (λ (n : ℕ). IsTrack limits n (take i r.entries) track) w
    (subst (λ (xs : List Entry). IsTrack limits width (take i xs) track) es behind)) in
    (ap (λ (x : Entry). x.call) same, answers_f.is r.width (take i r.entries) behind_r suits.call)
