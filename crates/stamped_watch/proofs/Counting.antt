-- One event more of a stream, of which nothing was found.
use Rattle.std.proofs.Common.{ℕ, ◌≡◌, ◌+◌, ◌^◌, ◌<◌, ◌≤◌, Bool, List, [], ◌∷◌, ◌++◌, length, Option, Some, None, sym}
use Rattle.std.proofs.Common.{◌∙◌, ap, subst, arith, refl}
use Rattle.std.specs.Prelude.{cond, drop}
use Rattle.std.specs.List.{count_by}
use Rattle.std.proofs.lemmas.List.{length-append}
use Rattle.std.proofs.lemmas.List.Elements.{All-nil}
use Rattle.std.proofs.lemmas.List.Sums.{count_by-le-length, sum_by_push}
use Rattle.stamp_core.specs.Content.{zeros}
use Rattle.stamp_core.specs.Limits.{Bounds}
use Rattle.stamp_runs.specs.declared.event.Event.{Event}
use Rattle.stamp_runs.specs.declared.event.Event.TheVariants.{Begins, Returns, Withdraws}
use Rattle.stamp_watch.specs.declared.late.LateJudge.{LateJudge}
use Rattle.stamp_runs.specs.Names.{EachOfEvent}
use Rattle.stamp_watch.specs.Names.{AreContents, IsEventBy, IsNamed}
use Rattle.stamp_watch.proofs.JudgingLate.{late_way, run_long}
use Rattle.stamp_watch.proofs.Named.{one_content}
use Rattle.stamped_watch.specs.declared.header.Header.{Header}
use Rattle.stamped_watch.specs.declared.run_judge.RunJudge.{RunJudge}
use Rattle.stamped_watch.specs.declared.stream_judge.StreamJudge.{StreamJudge}
use Rattle.stamped_watch.specs.EventBytes.{HasBytes}
use Rattle.stamped_watch.specs.Finding.{is_beginning, is_withdrawal}
use Rattle.stamped_watch.specs.Header.{IsHeader, StandsBehind}
use Rattle.stamped_watch.specs.Stream.{IsStream, words_of_record}
use Rattle.stamped_watch.specs.StreamJudge.{IsFresh, IsUnderWay}
use Rattle.stamped_watch.specs.inner.StreamJudge.{AreCounted}
use Rattle.stamped_watch.specs.StreamJudge.{IsGoingOn, IsNewRunJudge}
use Rattle.stamped_watch.proofs.Streaming.{narrow, run_more, stream_first}

count_more : (p : Event → Bool) (events : List Event) (e : Event) →
    count_by p (events ++ e ∷ []) ≡ count_by p events + cond (p e) 1 0
count_more p events e = sum_by_push (λ (x : Event). cond (p x) 1 0) events e

module _ (events : List Event) (old new : StreamJudge) (begun : old.begun ≡ count_by is_beginning events)
    (withdrawn : old.withdrawn ≡ count_by is_withdrawal events) where
  begun_then : (e : Event) → AreCounted e old new → new.begun ≡ count_by is_beginning (events ++ e ∷ [])
  begun_then (Begins lane call) is = is.begun_is ∙ ap (λ (n : ℕ). n + 1) begun ∙
      sym (count_more is_beginning events (Begins lane call))
  begun_then (Returns lane reply) is = is.begun_is ∙ ap (λ (n : ℕ). n + 0) begun ∙
      sym (count_more is_beginning events (Returns lane reply))
  begun_then (Withdraws lane) is = is.begun_is ∙ ap (λ (n : ℕ). n + 0) begun ∙
      sym (count_more is_beginning events (Withdraws lane))

  withdrawn_then : (e : Event) → AreCounted e old new → new.withdrawn ≡ count_by is_withdrawal (events ++ e ∷ [])
  withdrawn_then (Begins lane call) is = is.withdrawn_is ∙ ap (λ (n : ℕ). n + 0) withdrawn ∙
      sym (count_more is_withdrawal events (Begins lane call))
  withdrawn_then (Returns lane reply) is = is.withdrawn_is ∙ ap (λ (n : ℕ). n + 0) withdrawn ∙
      sym (count_more is_withdrawal events (Returns lane reply))
  withdrawn_then (Withdraws lane) is = is.withdrawn_is ∙ ap (λ (n : ℕ). n + 1) withdrawn ∙
      sym (count_more is_withdrawal events (Withdraws lane))

-- the events of which nothing was found can be numbered
run_short : (limits : Bounds) (most ahead : ℕ) (run : List Event) (inner : LateJudge) →
    IsGoingOn limits most ahead run inner → length run < 2 ^ 64
run_short limits most ahead run inner on =
    let room : inner.delay.passed + length inner.delay.waiting.events.items < 2 ^ 64 =
    (late_way limits most ahead run inner on.judge_of on.none).room in
    let long = run_long limits most ahead run inner on.judge_of on.none in omega (arith, room, long)

-- so one of them more can be counted
pub count_room : (most ahead : ℕ) (taken : List ℕ) (begun withdrawn : ℕ) (old : RunJudge) (inner : LateJudge) (e :
    Event)
    (way : IsUnderWay most ahead taken begun withdrawn old) →
    IsGoingOn way.header.limits most ahead (way.run ++ e ∷ []) inner →
    (begun + 1 < 2 ^ 64) × (withdrawn + 1 < 2 ^ 64)
count_room most ahead taken begun withdrawn old inner e way on =
    let short = run_short way.header.limits most ahead (way.run ++ e ∷ []) inner on in
    let long = length-append way.run (e ∷ []) in (
      (let low = count_by-le-length is_beginning way.run in omega (arith, short, long, low, way.begun_is)),
      (let low = count_by-le-length is_withdrawal way.run in omega (arith, short, long, low, way.withdrawn_is)),
    )

-- an event was given of which nothing was found
pub under_way_then : (most ahead : ℕ) (taken bytes : List ℕ) (old new : StreamJudge) (inner : RunJudge)
    (next : LateJudge) (e small : Event) (way : IsUnderWay most ahead taken old.begun old.withdrawn inner) →
    HasBytes way.header.width e bytes → IsEventBy inner.names e small → AreCounted small old new →
    IsGoingOn way.header.limits most ahead (way.run ++ small ∷ []) next →
    IsUnderWay most ahead (taken ++ bytes) new.begun new.withdrawn (record inner { judge = next })
under_way_then most ahead taken bytes old new inner next e small way has by counted on = record {
  header = way.header;
  run = way.run ++ small ∷ [];
  stream = run_more inner.names taken way.header way.run e small bytes way.stream has by;
  width_is = way.width_is;
  judge_of = on.judge_of;
  none = on.none;
  begun_is = begun_then way.run old new way.begun_is way.withdrawn_is small counted;
  withdrawn_is = withdrawn_then way.run old new way.begun_is way.withdrawn_is small counted;
}

first_contents : (header : Header) (bytes : List ℕ) → IsHeader header bytes →
    AreContents (words_of_record header.width) (zeros (words_of_record header.width) ∷ [])
first_contents header bytes is = one_content (words_of_record header.width) (some_words header.width (drop 16 bytes)
    is.behind) (narrow header bytes is)
  where
    some_words : (width : Option ℕ) (behind : List ℕ) → StandsBehind width behind → 1 ≤ words_of_record width
    some_words None behind none = omega arith
    some_words (Some width) behind has = has.1.some

-- the header was read
pub under_way_first : (most ahead : ℕ) (taken bytes : List ℕ) (begun withdrawn : ℕ) (inner : RunJudge)
    (header : Header) → IsFresh taken begun withdrawn → IsHeader header bytes → IsNewRunJudge header most ahead inner →
    IsUnderWay most ahead (taken ++ bytes) begun withdrawn inner
under_way_first most ahead taken bytes begun withdrawn inner header fresh is new = record {
  header = header;
  run = [];
  stream = record {
    events = [];
    stream = subst (λ (xs : List ℕ). IsStream (xs ++ bytes) header [] []) (sym fresh.nothing)
        (stream_first bytes header is);
    contents_are = subst (AreContents (words_of_record header.width)) (sym new.names_are)
        (first_contents header bytes is);
    named = All-nil (EachOfEvent (IsNamed inner.names));
    run_is = refl;
  };
  width_is = new.width_is;
  judge_of = new.judge_of;
  none = new.none;
  begun_is = fresh.begun_is;
  withdrawn_is = fresh.withdrawn_is;
}
