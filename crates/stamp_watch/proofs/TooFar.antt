-- A call that is open for too long.
use Rattle.std.proofs.Common.{ℕ, ◌≡◌, ◌+◌, ◌-◌, ◌<◌, ◌≤◌, List, ◌∷◌, ◌++◌, length, get_or, Some, sym}
use Rattle.std.proofs.Common.{◌∙◌}
use Rattle.std.proofs.Common.{ap, subst, arith}
use Rattle.std.specs.Prelude.{take, drop}
use Rattle.std.proofs.lemmas.List.Elements.{All-take}
use Rattle.std.proofs.lemmas.List.{take-append-le, drop-append-le, length-append, length-drop}
use Rattle.stamp_core.specs.Limits.{Bounds}
use Rattle.stamp_runs.specs.declared.event.Event.{Event}
use Rattle.stamp_runs.specs.declared.event.Event.TheVariants.{Begins}
use Rattle.stamp_runs.specs.Run.{IsEndOf, EndsNever}
use Rattle.stamp_runs.specs.BothRun.{AreExplained}
use Rattle.stamp_sets.specs.declared.ending.Ending.{Ending}
use Rattle.stamp_sets.specs.declared.ending.Ending.TheVariants.{Never}
use Rattle.stamp_watch.specs.declared.verdict.Verdict.TheVariants as verdict
use Rattle.stamp_watch.specs.declared.verdict.Why.TheVariants as cause
use Rattle.stamp_sets.specs.declared.watch.Watch.{Watch}
use Rattle.stamp_watch.specs.Foretold.{told_as}
use Rattle.stamp_watch.specs.Judging.{IsFound}
use Rattle.stamp_watch.specs.Course.{IsRunOn}
use Rattle.stamp_watch.specs.SoFar.{BeginWithOpenCall, IsUnended}
use Rattle.stamp_watch.specs.Verdict.{AreOfLanes, IsOpenFor}
use Rattle.stamp_watch.specs.inner.Judging.{IsEndTold}
use Rattle.stamp_watch.specs.inner.Course.{IsUnknown}
use Rattle.stamp_watch.proofs.Judging.{ends_so}
use Rattle.stamp_watch.proofs.LettingGo.{run_behind, run_length}
use Rattle.stamp_watch.proofs.Reading.{drop_read}
use Rattle.stamp_watch.proofs.Running.{cut_run, front_of_run, next_of_run}

unended : (e : Event) (n : ℕ) (ends : Ending) (behind : List Event) → IsUnknown e ends → IsEndTold e n behind ends →
    IsUnended e behind
unended (Begins lane call) n ends behind never told = ends_so lane n behind Never (sym (ap told_as never) ∙ told)
unended _ n ends behind never told = absurd never

-- what was not seen begins with a call of which it isn't known how it ends
pub front_waits : (events : List Event) (seen : ℕ) (e : Event) → seen < length events → e ≡ get_or events seen e →
    (n : ℕ) (ends : Ending) → IsUnknown e ends → IsEndTold e n (drop (seen + 1) events) ends →
    BeginWithOpenCall (drop seen events)
front_waits events seen e less read n ends unknown told = subst BeginWithOpenCall
    (sym (drop_read events seen e less read)) (unended e n ends (drop (seen + 1) events) unknown told)

open_for : (e : Event) (n k ahead : ℕ) (ends : Ending) (run behind more : List Event) → IsUnknown e ends →
    IsEndTold e n behind ends → drop k run ≡ e ∷ behind ++ more → ahead ≤ length behind → IsOpenFor run k ahead
open_for (Begins lane call) n k ahead ends run behind more never told there many = record {
  lane = lane;
  call = call;
  later = behind ++ more;
  there = there;
  many = let long : length (behind ++ more) ≡ length behind + length more = length-append behind more in
      omega (arith, long, many);
  never = subst (EndsNever lane) (sym (take-append-le ahead behind more many))
      (All-take (λ (e : Event). ¬ IsEndOf lane e) ahead behind
      (ends_so lane n behind Never (sym (ap told_as never) ∙ told)));
}
open_for _ n k ahead ends run behind more never told there many = absurd never

module _ (limits : Bounds) (run : List Event) (first seen : ℕ) (events : List Event) (base watch : Watch)
    (is : IsRunOn limits run first seen events base watch) (e : Event) (less : seen < length events)
    (read : e ≡ get_or events seen e) where
  there : (more : List Event) → drop (first + seen) (run ++ more) ≡ e ∷ drop (seen + 1) events ++ more
  there more = drop-append-le (first + seen) run more within ∙
      ap (λ (xs : List Event). xs ++ more)
      (run_behind limits run first seen events base watch is seen ∙ drop_read events seen e less read)
    where
      within : first + seen ≤ length run
      within = let long : length run ≡ first + length events = run_length limits run first seen events base watch is in
          omega (arith, long, less)

  -- the call that begins by the event at the front does not end among so many events
  pub run_too_far : (most ahead n : ℕ) (ends : Ending) → ahead ≤ length (drop (seen + 1) events) → IsUnknown e ends →
      IsEndTold e n (drop (seen + 1) events) ends →
      IsFound limits run most (Some ahead) (verdict.Undecided (first + seen) cause.TooFar)
  run_too_far most ahead n ends many unknown told more = (
    next_of_run limits run first seen events base watch is seen more less,
    subst (AreExplained limits) (sym (cut_run limits run first seen events base watch is seen more is.within))
        is.now.judging.explained,
    (
      open_for e n (first + seen) ahead ends (run ++ more) (drop (seen + 1) events) more unknown told (there more)
          many,
      subst (λ (m : ℕ). AreOfLanes (take m (run ++ more))) place
          (front_of_run limits run first seen events base watch is (seen + 1 + ahead) more
          (let long : length (drop (seen + 1) events) ≡ length events - (seen + 1) = length-drop (seen + 1) events in
          omega (arith, less, long, many))),
    ),
  )
    where
      place : first + (seen + 1 + ahead) ≡ first + seen + 1 + ahead
      place = omega arith
