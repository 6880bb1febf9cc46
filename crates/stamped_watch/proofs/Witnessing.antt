-- A witness by the events that a judge keeps is one of the stream.
use Rattle.std.proofs.Common.{ℕ, ◌≡◌, ◌++◌, ◌+◌, ◌∷◌, [], List, Option, Some, length, take, refl, ap, sym}
use Rattle.std.proofs.Common.{subst, ◌∙◌, arith, add-zero, length-append}
use Rattle.std.specs.declared.alloc.Global.{Global}
use Rattle.std.specs.Prelude.{Result, Ok, Err, Vec, min, MatchOption, ⊤}
use Rattle.std.proofs.lemmas.List.{take-append-le}
use Rattle.stamp_core.specs.Limits.{Bounds, bounds}
use Rattle.stamp_core.specs.declared.layout.Layout.{Layout}
use Rattle.stamp_core.specs.declared.layout.Layout.TheVariants.{One, Two}
use Rattle.stamp_observed.specs.declared.behind.Sought.{Sought}
use Rattle.stamp_runs.specs.declared.event.Event.{Event}
use Rattle.stamp_watch.specs.declared.ended_call.EndedCall.{EndedCall}
use Rattle.stamp_watch.specs.declared.online.Judge.{Judge}
use Rattle.stamp_watch.specs.EndedCall.{IsEndedAt}
use Rattle.stamp_watch.specs.Start.{BeganLateBy, IsJudgeUpTo}
use Rattle.stamped_watch.specs.declared.finding.Finding.TheVariants.{Stuck}
use Rattle.stamped_watch.specs.declared.header.Header.{Header}
use Rattle.stamped_watch.specs.declared.orders.Watching.{Watching}
use Rattle.stamped_watch.specs.declared.run_judge.RunJudge.{RunJudge}
use Rattle.stamped_watch.specs.declared.stream_judge.StreamJudge.{StreamJudge}
use Rattle.stamped_watch.specs.declared.witness.NoWitness.{NoWitness}
use Rattle.stamped_watch.specs.declared.witness.NoWitness.TheVariants as lack
use Rattle.stamped_watch.specs.Header.{HasLimits, layout_byte}
use Rattle.stamped_watch.specs.Note.{EndsThere}
use Rattle.stamped_watch.specs.Possible.{BeganLate, KeepsOf}
use Rattle.stamped_watch.specs.Stream.{IsStream}
use Rattle.stamped_watch.specs.StreamJudge.{EndsInRun, EndsInStream, IsEndBy, KeepsFed, ended_of}
use Rattle.stamped_watch.specs.Witness.{AreInVain, AreSoughtOn, IsSoughtFrom, IsText, IsTextHere, IsWitnessText}
use Rattle.stamped_watch.specs.Witness.{most_searched, width_told}
use Rattle.stamped_watch.proofs.InWords.{EndsInWords, ended_in_words}
use Rattle.stamped_watch.proofs.Replying.{late_told}

-- the bytes of a stream tell its limits
layouts_are : (a b : Layout) → layout_byte a ≡ layout_byte b → a ≡ b
layouts_are One One same = refl
layouts_are Two Two same = refl
layouts_are One Two same = absurd (cc)
layouts_are Two One same = absurd (cc)

limits_in : (bytes : List ℕ) (header : Header) (events : List Event) (rest : List ℕ) →
    IsStream bytes header events rest → HasLimits header.limits (take 16 bytes)
limits_in bytes header events rest is =
    let long = length-append is.head is.units in
    let many = is.header_is.many in
    subst (HasLimits header.limits) (sym (ap (λ (xs : List ℕ). take 16 xs) is.parts ∙
    take-append-le 16 (is.head ++ is.units) rest (omega (arith, long, many)) ∙
    take-append-le 16 is.head is.units many)) is.header_is.front.limits_are

bounds_are : (a b : Bounds) → a.layout ≡ b.layout → a.readers ≡ b.readers → a.versions ≡ b.versions → a ≡ b
bounds_are a b layout readers versions =
    ap (λ (l : Layout). bounds l a.readers a.versions) layout ∙
    ap (λ (r : ℕ). bounds b.layout r a.versions) readers ∙
    ap (λ (v : ℕ). bounds b.layout b.readers v) versions

same_limits : (bytes : List ℕ) (a b : Bounds) → HasLimits a bytes → HasLimits b bytes → a ≡ b
same_limits bytes a b one other = bounds_are a b
    (layouts_are a.layout b.layout (sym one.layout ∙ other.layout))
    (sym one.readers ∙ other.readers)
    (sym one.versions ∙ other.versions)

-- what the judge keeps is of the bytes, and the call that ends there, told in words
module _ (asked : Watching) (fed : List ℕ) (judge : StreamJudge) (keeps : KeepsFed asked.most asked.ahead fed judge)
    (inner : RunJudge) (some : judge.judge ≡ Some inner) (k : ℕ) (ends : EndsInStream fed judge.judge (Stuck k)) where
  kept_of : KeepsOf asked.most asked.ahead fed inner
  kept_of = subst (λ (o : Option RunJudge). MatchOption o ⊤ (λ i. KeepsOf asked.most asked.ahead fed i)) some keeps

  pub none_behind_late : BeganLateBy inner.judge k → BeganLate asked.ahead fed k
  none_behind_late late = late_told asked.most asked.ahead fed inner kept_of k late

  module _ (small : EndedCall) (of : ended_of inner.judge k ≡ Some small) (x : EndedCall)
      (is_told : (told : EndedCall) → IsEndBy inner.names told small → x ≡ told) where
    in_run : EndsInRun inner fed k small
    in_run = (subst (λ (o : Option RunJudge). EndsInStream fed o (Stuck k)) some ends) k refl small of

    words : EndsInWords inner.names in_run.stream.events k small
    words = ended_in_words inner.names in_run.stream.events in_run.run in_run.stream.named in_run.stream.run_is k small
        in_run.ends

    by_number : IsEndBy inner.names x small
    by_number = subst (λ (told : EndedCall). IsEndBy inner.names told small) (sym (is_told words.told words.by)) words.by

    there : EndsThere fed k x
    there = record {
      header = in_run.header;
      events = in_run.stream.events;
      rest = in_run.rest;
      stream = in_run.stream.stream;
      ends = subst (λ (told : EndedCall). IsEndedAt in_run.stream.events k told)
          (sym (is_told words.told words.by)) words.ends;
    }

    limits_are : (base : Judge) → IsJudgeUpTo inner.judge k base → base.course.base.limits ≡ in_run.header.limits
    limits_are base up =
        ap (λ (j : Judge). j.course.base.limits) up.is ∙
        kept_of.keeps.keeps.from_base.judging.limits_are ∙
        same_limits (take 16 fed) kept_of.header.limits in_run.header.limits
        (limits_in fed kept_of.header kept_of.stream.events kept_of.rest kept_of.stream.stream)
        (limits_in fed in_run.header in_run.stream.events in_run.rest in_run.stream.stream)

    -- so it is with a text that was sought, or with why there is none
    pub text_told : (base : Judge) → IsJudgeUpTo inner.judge k base → (most : ℕ) → asked.most ≡ most →
        (r : Result (Vec ℕ Global) NoWitness) → IsTextHere inner base k x (min most 16384) r → IsText asked fed k r
    unfolding there
    text_told base up most same (Ok text) is = record {
      ended = x;
      there = there;
      text_is = subst (λ (w : ℕ). IsWitnessText in_run.header.limits w x text.items)
          (ap width_told in_run.width_is)
          (subst (λ (l : Bounds). IsWitnessText l (width_told inner.width) x text.items) (limits_are base up) is);
    }
    text_told base up most same (Err lack.BeganLate) is = absurd is
    text_told base up most same (Err lack.Withdrawn) is = record { ended = x; there = there; no_reply = is }
    text_told base up most same (Err (lack.NotFound sought)) is = record {
      inner = inner;
      keeps = kept_of;
      small = small;
      kept = of;
      ended = x;
      by_number = by_number;
      there = there;
      in_vain = subst (λ (j : Judge). AreInVain inner j k x (min asked.most most_searched) sought.items) up.is
          (subst (λ (m : ℕ). AreInVain inner base k x (min m 16384) sought.items) (sym same) is);
    }
    text_told base up most same (Err lack.Memory) is = tt

-- one more start was tried
pub sought_more : (run : RunJudge) (judge : Judge) (number : ℕ) (x : EndedCall) (most start : ℕ)
    (before : List Sought) (sought : Sought) → AreSoughtOn run judge number x most start before →
    IsSoughtFrom run judge number x most (start + length before) sought →
    AreSoughtOn run judge number x most start (before ++ sought ∷ [])
sought_more run judge number x most start [] sought are is =
    (subst (λ (n : ℕ). IsSoughtFrom run judge number x most n sought) (add-zero start) is, tt)
sought_more run judge number x most start (s ∷ before) sought are is = (
  are.0,
  sought_more run judge number x most (start + 1) before sought are.1
      (subst (λ (n : ℕ). IsSoughtFrom run judge number x most n sought) (omega arith) is),
)
