-- The walk over a history: what it keeps says what an entry breaks.
use Rattle.std.proofs.Common.{◌≡◌, ℕ, ◌<◌, List, [], ◌∷◌, ◌++◌, get_or, set, refl, sym, ◌∙◌, ap}
use Rattle.std.proofs.Common.{subst, arith, true, false, Option, Some, None, replicate}
use Rattle.std.proofs.Math.ListN.{length-set}
use Rattle.std.proofs.lemmas.List.{length-replicate, get_or-replicate}
use Rattle.stamp_core.specs.Limits.{Bounds}
use Rattle.stamp_core.specs.LockEvent.{LockEvent}
use Rattle.stamp_core.specs.Word.{LockWord, Represents, word_at}
use Rattle.stamp_core.specs.Transition.{transition}
use Rattle.stamp_core.specs.Call.{is_lock_call}
use Rattle.stamp_core.specs.Content.{zeros, RecordReplies, content_next}
use Rattle.stamp_core.specs.History.{appended_by, events_of, content_after}
use Rattle.stamp_core.specs.Record.{EntrySuits}
use Rattle.stamp_core.specs.Linearized.{history_of, HasPointInside, IsAnswered}
use Rattle.stamp_core.specs.declared.entry.Entry.{Entry}
use Rattle.stamp_core.proofs.Linearizing.{events_push, content_push, linearized_more, linearized_none}
use Rattle.stamp_check.specs.declared.checking.Why.TheVariants.{Interval, Order, Overlap}
use Rattle.stamp_check.specs.declared.checking.Why.TheVariants as why
use Rattle.stamp_check.specs.declared.walk.Walk.{Walk}
use Rattle.stamp_check.specs.inner.GoesOn.{LockGoesOn, RecordGoesOn}
use Rattle.stamp_check.specs.inner.Walk.{IsAbove, IsLastOf, IsWalk, Advances}
use Rattle.stamp_check.proofs.LastPositions.{above_rises, rises_above, last_point_push}
use Rattle.stamp_check.proofs.LastPositions.{above_follows, follows_above, lasts_push}
use Rattle.stamp_check.proofs.LockOrRecord.{lock_answer, lock_answered, record_answer}
use Rattle.stamp_check.proofs.LockOrRecord.{record_answered, lock_keeps, record_keeps, has_record}

-- what an entry breaks
pub breaks_interval : (limits : Bounds) (e : Entry) (walk next : Walk) → ¬ HasPointInside e →
    Advances limits e walk next (Some Interval)
breaks_interval limits e walk next not = record { behind = λ width before after suits. not }

pub breaks_order : (limits : Bounds) (e : Entry) (walk next : Walk) → HasPointInside e → ¬ IsAbove walk.point e.point →
    Advances limits e walk next (Some Order)
breaks_order limits e walk next within not = record {
  behind = λ width before after suits. (
    within,
    λ rises. not (rises_above before e walk.point after.point rises),
  );
}

pub breaks_overlap : (limits : Bounds) (e : Entry) (walk next : Walk) (d : Option ℕ) → e.thread < 64 →
    HasPointInside e → IsAbove walk.point e.point → ¬ IsAbove (get_or walk.lasts e.thread d) e.first →
    Advances limits e walk next (Some Overlap)
breaks_overlap limits e walk next d small within above not = record {
  behind = λ width before after suits. (
    within,
    above_rises before e walk.point after.point above,
    λ follows. not (follows_above before e (get_or walk.lasts e.thread d)
        (after.lasts e.thread d small) follows),
  );
}

-- what was tested before the reply is
pub record Follows (e : Entry) (walk : Walk) (d : Option ℕ) : Type 0 where
  pub thread : e.thread < 64
  pub within : HasPointInside e
  pub above : IsAbove walk.point e.point
  pub free : IsAbove (get_or walk.lasts e.thread d) e.first

breaks_reply : (limits : Bounds) (e : Entry) (walk next : Walk) (d : Option ℕ) → Follows e walk d →
    ((width : ℕ) (before : List Entry) → IsWalk limits width before walk → EntrySuits width e →
    ¬ IsAnswered limits width before e) → Advances limits e walk next (Some why.Reply)
breaks_reply limits e walk next d f not = record {
  behind = λ width before after suits. (
    f.within,
    above_rises before e walk.point after.point f.above,
    above_follows before e (get_or walk.lasts e.thread d) (after.lasts e.thread d f.thread) f.free,
    not width before after suits,
  );
}

pub breaks_lock_reply : (limits : Bounds) (e : Entry) (walk next : Walk) (d : Option ℕ) → Follows e walk d →
    is_lock_call e.call ≡ true → LockGoesOn limits walk.bits e.call e.reply None →
    Advances limits e walk next (Some why.Reply)
breaks_lock_reply limits e walk next d f lock goes =
    breaks_reply limits e walk next d f (λ width before after suits answered. goes.after
    (events_of limits (history_of before)) after.word (lock_answered limits width before e lock answered))

pub breaks_record_reply : (limits : Bounds) (e : Entry) (walk next : Walk) (d : Option ℕ) → Follows e walk d →
    is_lock_call e.call ≡ false → RecordGoesOn walk.content e.call e.reply None →
    Advances limits e walk next (Some why.Reply)
breaks_record_reply limits e walk next d f lock goes =
    breaks_reply limits e walk next d f (λ width before after suits answered. goes
    (subst (λ (content : List ℕ). RecordReplies content e.call e.reply)
    (sym (after.content (has_record width e.call lock suits.call)))
    (record_answered limits width before e lock answered)))

-- one entry more
goes_on : (limits : Bounds) (width : ℕ) (before : List Entry) (e : Entry) (walk : Walk) (bits : ℕ)
    (content : List ℕ) (d : Option ℕ) → IsWalk limits width before walk → Follows e walk d →
    IsAnswered limits width before e → Represents limits (word_at limits bits)
    (events_of limits (history_of before) ++
    appended_by (transition limits (events_of limits (history_of before)) e.call)) →
    (0 < width → content ≡ content_next (content_after width (history_of before)) e.call e.reply) →
    IsWalk limits width (before ++ e ∷ []) (record
    { bits = bits; content = content; point = Some e.point; lasts = set walk.lasts e.thread (Some e.last) })
goes_on limits width before e walk bits content d after f answered represented held =
    let follows = above_follows before e (get_or walk.lasts e.thread d) (after.lasts e.thread d f.thread) f.free in
    record {
      linearized = linearized_more limits width before e after.linearized
          (record {
            within = f.within;
            rises = above_rises before e walk.point after.point f.above;
            follows =
                follows;
            answered = answered;
          });
      word = subst (λ (events : List LockEvent). Represents limits (word_at limits bits) events)
          (sym (events_push limits before e)) represented;
      content = λ some. held some ∙ sym (content_push width before e);
      point = last_point_push before e;
      threads = length-set walk.lasts e.thread (Some e.last) ∙ after.threads;
      lasts = lasts_push before e walk.lasts after.threads f.thread follows f.within after.lasts;
    }

pub lock_goes_on : (limits : Bounds) (e : Entry) (walk : Walk) (bits : ℕ) (d : Option ℕ) → Follows e walk d →
    is_lock_call e.call ≡ true → LockGoesOn limits walk.bits e.call e.reply (Some bits) →
    Advances limits e walk (record {
      bits = bits;
      content = walk.content;
      point = Some e.point;
      lasts =
          set walk.lasts e.thread (Some e.last);
    }) None
lock_goes_on limits e walk bits d f lock goes = record {
  behind = λ width before after suits.
      let now = goes.after (events_of limits (history_of before)) after.word in
      goes_on limits width before e walk bits walk.content d after f
      (lock_answer limits width before e lock now.0) now.1
      (λ some. after.content some ∙ sym (lock_keeps (content_after width (history_of before)) e.call e.reply lock));
}

pub record_goes_on : (limits : Bounds) (e : Entry) (walk : Walk) (content : List ℕ) (d : Option ℕ) →
    Follows e walk d → is_lock_call e.call ≡ false → RecordGoesOn walk.content e.call e.reply (Some content) →
    Advances limits e walk (record {
      bits = walk.bits;
      content = content;
      point = Some e.point;
      lasts =
          set walk.lasts e.thread (Some e.last);
    }) None
record_goes_on limits e walk content d f lock goes = record {
  behind = λ width before after suits.
      let same = after.content (has_record width e.call lock suits.call) in
      let events = events_of limits (history_of before) in
      goes_on limits width before e walk walk.bits content d after f
      (record_answer limits width before e lock
      (subst (λ (held : List ℕ). RecordReplies held e.call e.reply) same goes.0))
      (subst (λ (xs : List LockEvent). Represents limits (word_at limits walk.bits) xs)
      (sym (record_keeps limits events e.call lock)) after.word)
      (λ _. goes.1 ∙ ap (λ (held : List ℕ). content_next held e.call e.reply) same);
}

-- before the first entry
pub after_none : (limits : Bounds) (width : ℕ) (word : LockWord) (bits : ℕ) (content : List ℕ) →
    Represents limits word [] → bits ≡ word.bits → (0 < width → content ≡ zeros width) →
    IsWalk limits width [] (record { bits = bits; content = content; point = None; lasts = replicate 64 None })
after_none limits width word bits content represented is held = record {
  linearized = linearized_none limits width;
  word = record { well_formed = represented.well_formed; layout = refl; spelled = is ∙ represented.spelled };
  content = held;
  point = refl;
  threads = length-replicate {A = Option ℕ} 64 None;
  lasts = λ thread d few. subst (λ (n : Option ℕ). IsLastOf [] thread n)
      (sym (get_or-replicate {A = Option ℕ} 64 thread None d few)) (λ k e lt. absurd (omega arith));
}
