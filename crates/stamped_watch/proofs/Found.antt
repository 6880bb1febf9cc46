-- What is found of the events is found of the stream.
use Rattle.std.proofs.Common.{ℕ, ◌≡◌, ◌+◌, ◌^◌, ◌≤◌, ◌⊎◌, List, [], ◌∷◌, ◌++◌, length, Some, sym, subst, ◌∙◌}
use Rattle.std.proofs.Common.{inl, inr, arith, append-nil, append_assoc}
use Rattle.std.proofs.lemmas.List.{length-append}
use Rattle.stamp_core.specs.Limits.{Bounds}
use Rattle.stamp_runs.specs.BothRun.{AreStuckAt}
use Rattle.stamp_runs.specs.declared.event.Event.{Event}
use Rattle.stamp_watch.specs.Names.{IsEventBy, name_in}
use Rattle.stamp_watch.specs.declared.late_verdict.LateVerdict.{LateVerdict}
use Rattle.stamp_watch.specs.declared.late_verdict.LateVerdict.TheVariants.{Is, Late}
use Rattle.stamp_watch.specs.declared.verdict.Verdict.TheVariants as verdict
use Rattle.stamp_watch.specs.Late.{IsLateFound}
use Rattle.stamped_watch.specs.declared.finding.Finding.{Finding}
use Rattle.stamped_watch.specs.declared.finding.Finding.TheVariants as found
use Rattle.stamped_watch.specs.declared.header.Header.{Header}
use Rattle.stamped_watch.specs.EventBytes.{HasBytes, size_of}
use Rattle.stamped_watch.specs.Finding.{AreStuckThere, IsFindingOf, IsFoundOf, IsJudged, IsJudgedAtEnd}
use Rattle.stamped_watch.specs.Finding.{verdict_of}
use Rattle.stamped_watch.specs.Stream.{BeginsNoEvent, IsRunBy, IsRunIn, IsStream}
use Rattle.stamped_watch.specs.StreamJudge.{IsFoundSo, IsFoundWith, IsVerdictHere}
use Rattle.stamped_watch.proofs.InWords.{before_in_words, events_many, misplaced_in_words, stuck_in_words}
use Rattle.stamped_watch.proofs.Streaming.{first_of, run_behind, run_in, run_more, stream_behind}

-- a run that is judged stuck is so in words
stuck_there : (most ahead : ℕ) (bytes : List ℕ) (k : ℕ) → IsJudged most ahead bytes (Is (verdict.Stuck k)) →
    AreStuckThere bytes k
stuck_there most ahead bytes k is = record {
  header = is.header;
  events = is.stream.events;
  rest = is.rest;
  stream = is.stream.stream;
  stuck = stuck_in_words is.header.limits is.header.width is.stream.events is.run is.stream.named k (by is.judged);
}
  where
    by : IsLateFound is.header.limits is.run most ahead (Is (verdict.Stuck k)) ⊎
        IsJudgedAtEnd is.header is.run most ahead is.rest (Is (verdict.Stuck k)) →
        AreStuckAt is.header.limits is.run k
    by (inl found) = subst (λ (xs : List Event). AreStuckAt is.header.limits xs k) (append-nil is.run) (found []).1
    by (inr here) = here.verdict_is.1

-- a verdict that is judged so is what is found
pub judged_is : (most ahead : ℕ) (bytes : List ℕ) (f : Finding) (v : LateVerdict) → verdict_of f ≡ Some v →
    IsJudged most ahead bytes v → IsFindingOf most ahead bytes f
judged_is most ahead bytes (found.Stuck k) v is judged =
    let same : v ≡ Is (verdict.Stuck k) = cc in
    let stuck = subst (IsJudged most ahead bytes) same judged in
    (stuck, stuck_there most ahead bytes k stuck)
judged_is most ahead bytes (found.StuckWithin k m) v is judged =
    let same : v ≡ Is (verdict.StuckWithin k m) = cc in subst (IsJudged most ahead bytes) same judged
judged_is most ahead bytes (found.Undecided k why) v is judged =
    let same : v ≡ Is (verdict.Undecided k why) = cc in subst (IsJudged most ahead bytes) same judged
judged_is most ahead bytes (found.Late k) v is judged =
    let same : v ≡ Late k = cc in subst (IsJudged most ahead bytes) same judged
judged_is most ahead bytes (found.Explained calls) v is judged = absurd (cc)
judged_is most ahead bytes (found.Misplaced k why) v is judged = absurd (cc)
judged_is most ahead bytes (found.BadEvent k why) v is judged = absurd (cc)
judged_is most ahead bytes (found.Cut k) v is judged = absurd (cc)
judged_is most ahead bytes (found.BadHeader why) v is judged = absurd (cc)
judged_is most ahead bytes found.NoHeader v is judged = absurd (cc)
judged_is most ahead bytes found.Full v is judged = absurd (cc)

module _ (most ahead : ℕ) (contents : List (List ℕ)) (header : Header) where
  -- a verdict on the events that holds whatever comes later
  found_so : (taken : List ℕ) (run : List Event) (f : Finding) → IsRunBy contents taken header run [] →
      IsFoundSo header.limits run most ahead f → IsFoundOf most ahead taken f
  found_so taken run f stream so more = judged_is most ahead (taken ++ more) f so.verdict so.is (record {
    header = header;
    run = run;
    rest = more;
    stream = run_in contents (taken ++ more) header run more (run_behind contents taken header run more stream);
    judged = inl so.holds;
  })

  -- a verdict on the events, which end there
  pub found_here : (bytes rest : List ℕ) (run : List Event) (f : Finding) → IsRunBy contents bytes header run rest →
      BeginsNoEvent header.width rest → IsVerdictHere header.limits run most ahead f → IsFindingOf most ahead bytes f
  found_here bytes rest run f stream ends here = judged_is most ahead bytes f here.verdict here.is (record {
    header = header;
    run = run;
    rest = rest;
    stream = run_in contents bytes header run rest stream;
    judged = inr (record { ends = ends; verdict_is = here.holds });
  })

  module _ (taken : List ℕ) (run : List Event) (e small : Event) (bytes : List ℕ)
      (stream : IsRunBy contents taken header run []) (has : HasBytes header.width e bytes)
      (told : IsEventBy contents e small) where
    longer : IsRunBy contents (taken ++ bytes) header (run ++ small ∷ []) []
    longer = run_more contents taken header run e small bytes stream has told

    so : (f : Finding) → IsFoundSo header.limits (run ++ small ∷ []) most ahead f →
        IsFoundOf most ahead (taken ++ bytes) f
    so f is = found_so (taken ++ bytes) (run ++ small ∷ []) f longer is

    abbrev behind : (more : List ℕ) → IsRunIn (taken ++ bytes ++ more) header run (bytes ++ more)
    behind more = run_in contents (taken ++ bytes ++ more) header run (bytes ++ more) (record {
      events = stream.events;
      stream = subst (λ (xs : List ℕ). IsStream xs header stream.events (bytes ++ more))
          (sym (append_assoc taken bytes more)) (stream_behind taken (bytes ++ more) header stream.events
          stream.stream);
      contents_are = stream.contents_are;
      named = stream.named;
      run_is = stream.run_is;
    })

    pub found_with : (f : Finding) → IsFoundWith header.limits most ahead run small f →
        IsFoundOf most ahead (taken ++ bytes) f
    found_with found.Full many = λ more. record {
      header = header;
      events = longer.events;
      rest = more;
      stream = stream_behind (taken ++ bytes) more header longer.events longer.stream;
      many = let same = events_many (taken ++ bytes) header (run ++ small ∷ []) []
          (run_in contents (taken ++ bytes) header (run ++ small ∷ []) [] longer) in
          let long = length-append run (small ∷ []) in
          let all : 2 ^ 64 ≤ length run + 1 = many in omega (arith, long, all, same);
    }
    found_with (found.Misplaced k why) is = λ more. record {
      header = header;
      events = stream.events;
      rest = bytes ++ more;
      before = before_in_words (taken ++ bytes ++ more) header run (bytes ++ more) (behind more) is.whole is.explained;
      place = is.place ∙ events_many (taken ++ bytes ++ more) header run (bytes ++ more) (behind more);
      bad = record {
        event = e;
        has = subst (HasBytes header.width e) (sym (first_of (size_of e) bytes more has.many)) has;
        misplaced = misplaced_in_words (name_in contents) stream.events run e small why stream.run_is told.small_is
            is.misplaced;
      };
    }
    found_with (found.Stuck k) is = so (found.Stuck k) is
    found_with (found.StuckWithin k m) is = so (found.StuckWithin k m) is
    found_with (found.Undecided k why) is = so (found.Undecided k why) is
    found_with (found.Late k) is = so (found.Late k) is
    found_with (found.Explained calls) is = so (found.Explained calls) is
    found_with (found.BadEvent k why) is = so (found.BadEvent k why) is
    found_with (found.Cut k) is = so (found.Cut k) is
    found_with (found.BadHeader why) is = so (found.BadHeader why) is
    found_with found.NoHeader is = so found.NoHeader is

-- a verdict is what is found with one event more
pub so_found : (limits : Bounds) (most ahead : ℕ) (run : List Event) (e : Event) (f : Finding) (v : LateVerdict) →
    verdict_of f ≡ Some v → IsLateFound limits (run ++ e ∷ []) most ahead v → IsFoundWith limits most ahead run e f
so_found limits most ahead run e f v is holds = by f is
  where
    of : (g : Finding) → verdict_of g ≡ Some v → IsFoundSo limits (run ++ e ∷ []) most ahead g
    of g same = record { verdict = v; is = same; holds = holds }

    by : (g : Finding) → verdict_of g ≡ Some v → IsFoundWith limits most ahead run e g
    by (found.Stuck k) same = of (found.Stuck k) same
    by (found.StuckWithin k m) same = of (found.StuckWithin k m) same
    by (found.Undecided k why) same = of (found.Undecided k why) same
    by (found.Late k) same = of (found.Late k) same
    by (found.Explained calls) same = absurd (cc)
    by (found.Misplaced k why) same = absurd (cc)
    by (found.BadEvent k why) same = absurd (cc)
    by (found.Cut k) same = absurd (cc)
    by (found.BadHeader why) same = absurd (cc)
    by found.NoHeader same = absurd (cc)
    by found.Full same = absurd (cc)
