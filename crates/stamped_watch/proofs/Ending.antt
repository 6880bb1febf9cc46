-- A stream that ends, or goes on with bytes that are no event's.
use Rattle.std.proofs.Common.{ℕ, ◌≡◌, ◌≢◌, ◌⊎◌, ◌+◌, ◌*◌, ◌≤◌, List, [], ◌++◌, length, Option, Some, None}
use Rattle.std.proofs.Common.{refl, sym, ◌∙◌, ap, subst, inl, inr, arith, append-nil, append_assoc}
use Rattle.std.specs.Prelude.{◌-◌, MatchOption, take}
use Rattle.std.proofs.lemmas.List.{length-append, length-take, take-take}
use Rattle.stamp_core.specs.Limits.{Bounds}
use Rattle.stamp_runs.specs.declared.event.Event.{Event}
use Rattle.stamp_watch.specs.declared.late.LateJudge.{LateJudge}
use Rattle.stamp_watch.specs.LateJudge.{HasFoundNothingLater, IsLateJudge}
use Rattle.stamp_watch.specs.SoFar.{IsExplainedUpTo, open_calls}
use Rattle.stamp_watch.specs.Verdict.{AreOfLanes}
use Rattle.stamp_watch.proofs.JudgingLate.{late_way}
use Rattle.stamp_watch.proofs.SoFarLate.{late_near}
use Rattle.stamped_watch.specs.declared.event_bytes.BadEvent.{BadEvent}
use Rattle.stamped_watch.specs.declared.event_bytes.BadEvent.TheVariants as bad
use Rattle.stamped_watch.specs.declared.finding.Finding.{Finding}
use Rattle.stamped_watch.specs.declared.finding.Finding.TheVariants as found
use Rattle.stamped_watch.specs.declared.header.Header.{Header}
use Rattle.stamped_watch.specs.declared.run_judge.RunJudge.{RunJudge}
use Rattle.stamped_watch.specs.declared.so_far.SoFar.{SoFar}
use Rattle.stamped_watch.specs.declared.stream_judge.StreamJudge.{StreamJudge}
use Rattle.stamped_watch.specs.EventBytes.{HasFront, IsNoEvent, size_of}
use Rattle.stamped_watch.specs.Finding.{AreExplainedBefore, IsFindingOf, IsFoundOf, IsInForm, IsSoFar, calls_in}
use Rattle.stamped_watch.specs.Header.{IsShortHeader}
use Rattle.stamped_watch.specs.Progress.{IsSoFarOf}
use Rattle.stamped_watch.specs.Stream.{BeginsNoEvent, IsPartOfEvent, IsRunBy, IsRunIn}
use Rattle.stamped_watch.specs.StreamJudge.{IsFed, IsFresh, IsPart, IsUnderWay}
use Rattle.stamped_watch.specs.StreamJudge.{IsExplainedRun, IsFoundUnless}
use Rattle.stamped_watch.proofs.Found.{found_here}
use Rattle.stamped_watch.proofs.InWords.{before_in_words, calls_same, events_many}
use Rattle.stamped_watch.proofs.Streaming.{first_of, run_behind, run_in, state_of}

-- where nothing was found of a run, it is in form
pub judge_whole : (limits : Bounds) (most ahead : ℕ) (run : List Event) (judge : LateJudge) →
    IsLateJudge limits most ahead run judge → HasFoundNothingLater judge → AreOfLanes run
judge_whole limits most ahead run judge is none = (late_way limits most ahead run judge is none).delayed.whole

enough : (bytes more : List ℕ) → length bytes ≡ 16 → 16 ≤ length (bytes ++ more)
enough bytes more many = let long = length-append bytes more in omega (arith, many, long)

-- the first 16 of the bytes of an event
front_of_unit : (e : Event) (bytes : List ℕ) → take 16 (take (size_of e) bytes) ≡ take 16 bytes
front_of_unit e bytes = take-take 16 (size_of e) bytes (omega arith)

-- bytes that are no event's first ones are those of none
of_none : (width : Option ℕ) (bytes : List ℕ) (why : BadEvent) → IsNoEvent width why bytes → (e : Event) →
    ¬ HasFront width e bytes
of_none width bytes bad.Kind wrong e has = wrong (record { event_of = e; fits = has.fits; has = has.kind })
of_none width bytes bad.Zeros wrong e has = wrong.1 has.zeros
of_none width bytes bad.Number wrong e has = wrong.2 e has.fits has.kind has.number

-- so no event begins there
none_begins : (width : Option ℕ) (bytes : List ℕ) → ((e : Event) → ¬ HasFront width e (take 16 bytes)) →
    BeginsNoEvent width bytes
none_begins width bytes none e has = none e (subst (HasFront width e) (front_of_unit e bytes) has.front)

begins_none : (width : Option ℕ) (bytes more : List ℕ) (why : BadEvent) → length bytes ≡ 16 →
    IsNoEvent width why bytes → BeginsNoEvent width (bytes ++ more)
begins_none width bytes more why many wrong = none_begins width (bytes ++ more)
    (λ e has. of_none width bytes why wrong e (subst (HasFront width e) (first_of 16 bytes more many) has))

-- nor in a part of one
pub part_none : (width : Option ℕ) (bytes : List ℕ) → IsPartOfEvent width bytes → BeginsNoEvent width bytes
part_none width bytes (inl short) e has = let long = length-take (size_of e) bytes in omega (
  arith,
  long,
  short,
  has.many,
)
part_none width bytes (inr begins) e has =
    let long = length-take (size_of e) bytes in
    let less = begins.longer e (subst (HasFront width e) (front_of_unit e bytes) has.front) in
    omega (arith, long, less, has.many)

-- 16 bytes behind events are no event's first ones
pub no_event : (most ahead : ℕ) (contents : List (List ℕ)) (taken : List ℕ) (header : Header) (run : List Event)
    (bytes : List ℕ) (why : BadEvent) (k : ℕ) (f : Finding) → IsRunBy contents taken header run [] →
    length bytes ≡ 16 → IsNoEvent header.width why bytes → k ≡ length run →
    IsFoundUnless header.limits most ahead run (found.BadEvent k why) f → IsFoundOf most ahead (taken ++ bytes) f
no_event most ahead contents taken header run bytes why k f stream many none place unless more = by unless
  where
    behind : IsRunBy contents (taken ++ bytes ++ more) header run (bytes ++ more)
    behind = subst (λ (xs : List ℕ). IsRunBy contents xs header run (bytes ++ more))
        (sym (append_assoc taken bytes more)) (run_behind contents taken header run (bytes ++ more) stream)

    here_in : IsRunIn (taken ++ bytes ++ more) header run (bytes ++ more)
    here_in = run_in contents (taken ++ bytes ++ more) header run (bytes ++ more) behind

    by : IsFoundUnless header.limits most ahead run (found.BadEvent k why) f →
        IsFindingOf most ahead (taken ++ bytes ++ more) f
    by (inl is) = subst (IsFindingOf most ahead (taken ++ bytes ++ more)) (sym is.1) (record {
      header = header;
      events = here_in.events;
      rest = bytes ++ more;
      before = before_in_words (taken ++ bytes ++ more) header run (bytes ++ more) here_in is.0.whole is.0.explained;
      place = place ∙ events_many (taken ++ bytes ++ more) header run (bytes ++ more) here_in;
      bad = (enough bytes more many, subst (IsNoEvent header.width why) (sym (first_of 16 bytes more many)) none);
    })
    by (inr here) = found_here most ahead contents header (taken ++ bytes ++ more) (bytes ++ more) run f behind
        (begins_none header.width bytes more why many none) here

module _ (most ahead : ℕ) (fed : List ℕ) (judge : StreamJudge) (is : IsFed most ahead fed judge) where
  abbrev IsKnown : Option RunJudge → Type 0
  IsKnown o = MatchOption o (IsFresh is.taken judge.begun judge.withdrawn)
      (λ inner. IsUnderWay most ahead is.taken judge.begun judge.withdrawn inner)

  found_later : (f : Finding) → judge.found ≡ Some f → IsFoundOf most ahead fed f
  found_later f some more = subst (λ (xs : List ℕ). IsFindingOf most ahead xs f)
      (sym (append_assoc is.taken is.later more) ∙ ap (λ (xs : List ℕ). xs ++ more) (sym is.parts))
      (state (is.later ++ more))
    where
      state : IsFoundOf most ahead is.taken f
      state = subst (λ (o : Option Finding). MatchOption o (IsKnown judge.judge)
          (λ finding. IsFoundOf most ahead is.taken finding)) some is.has_taken.state

  pub found_at_end : (f : Finding) → judge.found ≡ Some f → IsFindingOf most ahead fed f
  found_at_end f some = subst (λ (xs : List ℕ). IsFindingOf most ahead xs f) (append-nil fed) (found_later f some [])

  module _ (none : judge.found ≡ None) where
    part : IsPart judge.judge is.later
    part = subst (IsPart judge.judge) (is.keeps none) is.part

    way : IsKnown judge.judge
    way = state_of most ahead is.taken judge is.has_taken none

    fresh_short : IsFresh is.taken judge.begun judge.withdrawn → IsShortHeader is.later → IsShortHeader fed
    fresh_short fresh short = subst IsShortHeader
        (sym (is.parts ∙ ap (λ (xs : List ℕ). xs ++ is.later) fresh.nothing)) short

    pub no_header_yet : judge.judge ≡ None → IsFindingOf most ahead fed found.NoHeader
    no_header_yet no_judge = fresh_short (subst IsKnown no_judge way)
        (subst (λ (o : Option RunJudge). IsPart o is.later) no_judge part)

    pub way_of_judge : (inner : RunJudge) → judge.judge ≡ Some inner →
        IsUnderWay most ahead is.taken judge.begun judge.withdrawn inner
    way_of_judge inner some = subst IsKnown some way

    module _ (inner : RunJudge) (some : judge.judge ≡ Some inner)
        (under_way : IsUnderWay most ahead is.taken judge.begun judge.withdrawn inner) where
      stream_here : IsRunBy inner.names fed under_way.header under_way.run is.later
      stream_here = subst (λ (xs : List ℕ). IsRunBy inner.names xs under_way.header under_way.run is.later)
          (sym is.parts)
          (run_behind inner.names is.taken under_way.header under_way.run is.later under_way.stream)

      here_in : IsRunIn fed under_way.header under_way.run is.later
      here_in = run_in inner.names fed under_way.header under_way.run is.later stream_here

      part_here : IsPartOfEvent under_way.header.width is.later
      part_here = subst (λ (w : Option ℕ). IsPartOfEvent w is.later) under_way.width_is
          (subst (λ (o : Option RunJudge). IsPart o is.later) some part)

      verdict_here : (f explained : Finding) →
          IsFoundUnless under_way.header.limits most ahead under_way.run explained f →
          (IsExplainedRun under_way.header.limits under_way.run → IsFindingOf most ahead fed explained) →
          IsFindingOf most ahead fed f
      verdict_here f explained (inl so) finds = subst (IsFindingOf most ahead fed) (sym so.1) (finds so.0)
      verdict_here f explained (inr here) finds = found_here most ahead inner.names under_way.header fed is.later
          under_way.run f stream_here (part_none under_way.header.width is.later part_here) here

      -- no byte is left
      pub whole_at_end : (calls : ℕ) (f : Finding) → judge.part.items ≡ [] → calls ≡ calls_in under_way.run →
          IsFoundUnless under_way.header.limits most ahead under_way.run (found.Explained calls) f →
          IsFindingOf most ahead fed f
      whole_at_end calls f empty count so = verdict_here f (found.Explained calls) so (λ run. record {
        header = under_way.header;
        events = here_in.events;
        all = subst (AreExplainedBefore fed under_way.header here_in.events) (sym (is.keeps none) ∙ empty)
            (before_in_words fed under_way.header under_way.run is.later here_in run.whole run.explained);
        count = count ∙ calls_same fed under_way.header under_way.run is.later here_in;
      })

      -- some are
      pub cut_at_end : (k : ℕ) (f : Finding) → judge.part.items ≢ [] → k ≡ length under_way.run →
          IsFoundUnless under_way.header.limits most ahead under_way.run (found.Cut k) f → IsFindingOf most ahead fed f
      cut_at_end k f any place so = verdict_here f (found.Cut k) so (λ run. record {
        header = under_way.header;
        events = here_in.events;
        rest = is.later;
        before = before_in_words fed under_way.header under_way.run is.later here_in run.whole run.explained;
        place = place ∙ events_many fed under_way.header under_way.run is.later here_in;
        bad = ((λ empty. any (is.keeps none ∙ empty)), part_here);
      })

    -- how far it is judged
    pub so_far_none : judge.judge ≡ None → IsShortHeader fed
    so_far_none = no_header_yet

    pub so_far_is : (inner : RunJudge) → judge.judge ≡ Some inner → (so_far : SoFar) →
        so_far.calls ≡ judge.begun - judge.withdrawn →
        ((limits : Bounds) (most ahead : ℕ) (run : List Event) → IsLateJudge limits most ahead run inner.judge →
        IsExplainedUpTo limits run (2 * ahead + 64) so_far.explained) →
        ((limits : Bounds) (most ahead : ℕ) (run : List Event) → IsLateJudge limits most ahead run inner.judge →
        so_far.under_way ≡ open_calls run) → IsSoFarOf ahead fed so_far
    so_far_is inner some so_far_here calls explained under_way =
        let under = way_of_judge inner some in record {
          header = under.header;
          run = under.run;
          rest = is.later;
          stream = here_in inner some under;
          short = part_here inner some under;
          calls_are = rw (sym under.begun_is, sym under.withdrawn_is) calls;
          explained_is = explained under.header.limits most ahead under.run under.judge_of;
          under_way_are = under_way under.header.limits most ahead under.run under.judge_of;
        }

    pub in_form : IsShortHeader fed ⊎ IsInForm ahead fed
    in_form = by judge.judge refl way
      where
        by : (o : Option RunJudge) → judge.judge ≡ o → IsKnown o → IsShortHeader fed ⊎ IsInForm ahead fed
        by None no_judge fresh = inl (no_header_yet no_judge)
        by (Some inner) some under_way =
            let near = late_near under_way.header.limits most ahead under_way.run inner.judge under_way.judge_of
            under_way.none in
            inr (record {
              header = under_way.header;
              run = under_way.run;
              rest = is.later;
              stream = here_in inner some under_way;
              whole = judge_whole under_way.header.limits most ahead under_way.run inner.judge under_way.judge_of
                  under_way.none;
              short = part_here inner some under_way;
              place = near.0;
              explained = near.1;
            })

  -- what is found so far
  pub so_far : IsSoFar most ahead fed judge.found
  so_far = by judge.found refl
    where
      by : (o : Option Finding) → judge.found ≡ o → IsSoFar most ahead fed o
      by None none = in_form none
      by (Some f) some = found_later f some
