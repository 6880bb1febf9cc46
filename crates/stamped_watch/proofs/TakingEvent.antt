-- The bytes of an event, taken in one or two pieces.
use Rattle.std.proofs.Common.{ℕ, ◌≡◌, ◌<◌, List, [], ◌++◌, length, Option, Some, None}
use Rattle.std.proofs.Common.{refl, sym, ◌∙◌, ap, subst, inl, inr, arith, append_assoc}
use Rattle.std.specs.Prelude.{drop}
use Rattle.std.proofs.lemmas.List.{length-append, take_all}
use Rattle.stamp_runs.specs.declared.event.Event.{Event}
use Rattle.stamp_watch.specs.Names.{IsEventBy, name_in}
use Rattle.stamped_watch.specs.declared.event_bytes.BadEvent.{BadEvent}
use Rattle.stamped_watch.specs.declared.event_bytes.Front.TheVariants.{Longer, Whole}
use Rattle.stamped_watch.specs.declared.run_judge.RunJudge.{RunJudge}
use Rattle.stamped_watch.specs.declared.stream_judge.StreamJudge.{StreamJudge}
use Rattle.stamped_watch.specs.EventBytes.{HasBytes, HasFront, IsNoEvent, words_in}
use Rattle.stamped_watch.specs.StreamJudge.{IsPart}
use Rattle.stamped_watch.specs.EventBytes.{IsLongerIn, IsPlain}
use Rattle.stamped_watch.specs.inner.StreamJudge.{HasTakenNone, HasTakenOne, HasTakenSome, IsFrontFor}
use Rattle.stamped_watch.specs.StreamJudge.{IsSmallEvent}
use Rattle.stamped_watch.specs.inner.StreamJudge.{TakesEvent, TakesNoEvent}
use Rattle.stamped_watch.specs.StreamJudge.{IsToldEvent}
use Rattle.stamped_watch.proofs.InWords.{small_by}
use Rattle.stamped_watch.proofs.Streaming.{first_of}
use Rattle.stamped_watch.proofs.Taking.{names_taken}

-- fewer than 16 bytes are part of a header, or of an event
pub short_part : (judge : Option RunJudge) (bytes : List ℕ) → length bytes < 16 → IsPart judge bytes
short_part None bytes few = inl few
short_part (Some inner) bytes few = inl few

-- an event without contents goes by no numbers
pub plain_by : (contents : List (List ℕ)) (e : Event) → IsPlain e → IsEventBy contents e e
plain_by contents e is = record { named = is.named contents; small_is = sym (is.by_name (name_in contents)) }

pub plain_small : (e : Event) → IsPlain e → IsSmallEvent e
plain_small e is = small_by [] e e (plain_by [] e is)

module _ (front : List ℕ) (many : length front ≡ 16) (old : StreamJudge) (none : old.found ≡ None) (inner : RunJudge)
    (some : old.judge ≡ Some inner) where
  plain_bytes : (e : Event) → HasFront inner.width e front → IsPlain e → HasBytes inner.width e front
  plain_bytes e has is = record {
    many = let no = ap length is.no_words in omega (arith, many, no);
    front = subst (HasFront inner.width e) (sym (take_all 16 front (omega (arith, many)))) has;
    words = subst (λ (words : List ℕ). words_in (length words) (drop 16 front) ≡ words) (sym is.no_words) refl;
  }

  pub whole_taken : (behind : List ℕ) (e : Event) (new : StreamJudge) → HasFront inner.width e front → IsPlain e →
      TakesEvent e old new → HasTakenOne (front ++ behind) behind old new
  whole_taken behind e new has is takes = record {
    unit = front;
    some = omega (arith, many);
    parts = refl;
    more = takes inner e front some (plain_bytes e has is) (plain_by inner.names e is);
  }

  pub none_taken : (behind : List ℕ) (fault : BadEvent) (new : StreamJudge) → IsNoEvent inner.width fault front →
      TakesNoEvent fault old new → HasTakenOne (front ++ behind) behind old new
  none_taken behind fault new wrong takes = record {
    unit = front;
    some = omega (arith, many);
    parts = refl;
    more = takes inner front some many wrong;
  }

  pub data_kept : (behind : List ℕ) (size : ℕ) (new : StreamJudge) → IsLongerIn inner.width front size →
      length behind < size → new ≡ old → HasTakenNone (front ++ behind) old new
  data_kept behind size new is few same = record {
    is_part = subst (λ (o : Option RunJudge). IsPart o (front ++ behind)) (sym some) (inr (record {
      many = let all = length-append front behind in omega (arith, all, many);
      event = is.one;
      front = subst (HasFront inner.width is.one) (sym (first_of 16 front behind many)) is.front;
      longer = λ e has.
          let size_is = is.each e (subst (HasFront inner.width e) (first_of 16 front behind many) has) in
          let all = length-append front behind in omega (arith, all, many, few, size_is);
    }));
    same = same;
  }

  module _ (next : RunJudge) (words rest behind : List ℕ) (small : Event) (parts : behind ≡ words ++ rest)
      (told : IsToldEvent inner next front words small) where
    pub some_named : HasTakenSome old → HasTakenSome (record old { judge = Some next })
    some_named taken = record {
      most = taken.most;
      ahead = taken.ahead;
      taken = taken.taken;
      has = names_taken taken.most taken.ahead taken.taken old taken.has none inner some next told.same;
    }

    pub small_told : IsSmallEvent small
    small_told = small_by next.names told.event small told.told

    pub data_taken : (new : StreamJudge) → TakesEvent small (record old { judge = Some next }) new →
        HasTakenOne (front ++ behind) rest old new
    data_taken new takes = record {
      unit = front ++ words;
      some = let all = length-append front words in omega (arith, all, many);
      parts = ap (λ (xs : List ℕ). front ++ xs) parts ∙ sym (append_assoc front words rest);
      more = λ most ahead taken has. takes next told.event (front ++ words) refl
          (subst (λ (w : Option ℕ). HasBytes w told.event (front ++ words)) (sym told.same.width_is) told.has) told.told
          most ahead taken (names_taken most ahead taken old has none inner some next told.same);
    }

-- so it is by what is known of a judge that may have no header yet
module _ (front : List ℕ) (many : length front ≡ 16) (old : StreamJudge) (none : old.found ≡ None) (behind : List ℕ)
  where
    pub cut_for : (width size : ℕ) → IsFrontFor old.judge front (Longer width size) → length behind < size →
        HasTakenNone (front ++ behind) old old
    cut_for width size is few = by old.judge refl is
      where
        by : (o : Option RunJudge) → old.judge ≡ o → IsFrontFor o front (Longer width size) →
            HasTakenNone (front ++ behind) old old
        by None no_judge wrong = absurd wrong
        by (Some inner) some is_for = data_kept front many old none inner some behind size old is_for.1 few refl

    pub whole_for : (e : Event) (new : StreamJudge) → IsFrontFor old.judge front (Whole e) → TakesEvent e old new →
        HasTakenOne (front ++ behind) behind old new
    whole_for e new is takes = by old.judge refl is
      where
        by : (o : Option RunJudge) → old.judge ≡ o → IsFrontFor o front (Whole e) →
            HasTakenOne (front ++ behind) behind old new
        by None no_judge wrong = absurd wrong
        by (Some inner) some is_for = whole_taken front many old none inner some behind e new is_for.0 is_for.1 takes
