-- The call that ends where a run is found stuck ends there in the run, also where calls began late.
use Rattle.std.proofs.Common.{◌≡◌, ◌⊎◌, ◌<◌, ℕ, List, [], ◌++◌, Option, Some, None, refl, sym, subst}
use Rattle.std.proofs.Common.{inl, inr}
use Rattle.std.specs.Prelude.{⊤, MatchOption}
use Rattle.std.proofs.lemmas.Option.{IfSome_then}
use Rattle.stamp_core.specs.Limits.{Bounds}
use Rattle.stamp_runs.specs.declared.event.Event.{Event}
use Rattle.stamp_watch.specs.declared.delay.Delay.{Delay}
use Rattle.stamp_watch.specs.declared.ended_call.EndedCall.{EndedCall}
use Rattle.stamp_watch.specs.declared.late_verdict.LateVerdict.{LateVerdict}
use Rattle.stamp_watch.specs.declared.late_verdict.LateVerdict.TheVariants as finding
use Rattle.stamp_watch.specs.declared.verdict.Verdict.{Verdict}
use Rattle.stamp_watch.specs.declared.verdict.Verdict.TheVariants as verdict
use Rattle.stamp_watch.specs.Delay.{IsShown, IsShownIfAny}
use Rattle.stamp_watch.specs.EndedCall.{IsEndedAt, ended_from}
use Rattle.stamp_watch.specs.LateJudge.{EndsInRun, EndsInRunLate}
use Rattle.stamp_watch.specs.Possible.{KeepsBase}
use Rattle.stamp_watch.specs.PossibleLate.{KeepsDelayed}
use Rattle.stamp_watch.specs.inner.Delay.{IsFindingOf, IsSettled, IsSettledFor, RestsBefore}
use Rattle.stamp_watch.proofs.EndedAt.{ended_more, kept_ended, later_ended}
use Rattle.stamp_watch.proofs.SameEnds.{ends_there}
use Rattle.stamp_watch.proofs.Showing.{settled_drop, settled_later}

-- behind all calls that began late, where it is shown by then that nothing is lost by them
pub settled_ends : (limits : Bounds) (run given aside waiting : List Event) (shown : Option ℕ) →
    IsShownIfAny limits run given aside waiting shown → (k : ℕ) → IsSettled aside shown k → (call : EndedCall) →
    IsEndedAt (given ++ (aside ++ waiting)) k call → IsEndedAt run k call
settled_ends limits run given aside waiting None any k is call at = absurd is
settled_ends limits run given aside waiting (Some many) any k is call at =
    ends_there run (given ++ waiting) k (settled_later limits run given waiting many shown)
    (settled_drop limits run given waiting many shown k is.1) call
    (subst (λ (xs : List Event). IsEndedAt (given ++ (xs ++ waiting)) k call) is.0 at)
  where
    shown : IsShown limits run given [] waiting many
    shown = subst (λ (xs : List Event). IsShown limits run given xs waiting many) is.0 any

-- of a run a judge was given these events, of which it keeps some
module _ (limits : Bounds) (run given : List Event) (delay : Delay) (keeps : KeepsBase limits given delay.judge)
    (later : KeepsDelayed limits run delay) (aside : List Event) (shown : Option ℕ)
    (settled : (k : ℕ) → IsSettled aside shown k → (call : EndedCall) → IsEndedAt given k call →
    IsEndedAt run k call) where
  before_late : (o : Option ℕ) → delay.first_late ≡ o → (v : Verdict) →
      ((k : ℕ) → v ≡ verdict.Stuck k → MatchOption o ⊤ (λ (first : ℕ). k < first)) →
      EndsInRun run delay.judge.course v
  before_late o first_is (verdict.Stuck k) before = later_ended limits run delay k later
      (subst (λ (p : Option ℕ). MatchOption p ⊤ (λ (first : ℕ). k < first)) (sym first_is) (before k refl))
  before_late o first_is _ before = tt

  by_late : (n : ℕ) → delay.first_late ≡ Some n → (v : Verdict) → RestsBefore v n ⊎ IsSettledFor aside shown v →
      EndsInRun run delay.judge.course v
  by_late n first_is (verdict.Stuck k) (inl less) = later_ended limits run delay k later
      (subst (λ (p : Option ℕ). MatchOption p ⊤ (λ (first : ℕ). k < first)) (sym first_is) less)
  by_late n first_is (verdict.Stuck k) (inr is) = IfSome_then
      (ended_from delay.judge.course.first delay.judge.course.events.items k)
      (kept_ended limits given delay.judge.course k keeps) (settled k is)
  by_late n first_is _ is = tt

  pub found_in_run : (first : Option ℕ) → delay.first_late ≡ first → (v : Verdict) (f : LateVerdict) →
      IsFindingOf aside shown first v f → EndsInRunLate run delay f
  found_in_run None first_is v f is =
      subst (EndsInRunLate run delay) (sym is) (before_late None first_is v (λ k same. tt))
  found_in_run (Some n) first_is v (finding.Is w) is =
      subst (EndsInRun run delay.judge.course) (sym is.0) (by_late n first_is v is.1)
  found_in_run (Some n) first_is v (finding.Late k) is = tt

-- so it is when more comes
pub more_in_run : (run more : List Event) (delay : Delay) (f : LateVerdict) → EndsInRunLate run delay f →
    EndsInRunLate (run ++ more) delay f
more_in_run run more delay (finding.Is verdict.Explained) there = tt
more_in_run run more delay (finding.Is (verdict.Stuck k)) there =
    IfSome_then (ended_from delay.judge.course.first delay.judge.course.events.items k) there (ended_more run more k)
more_in_run run more delay (finding.Is (verdict.StuckWithin k m)) there = tt
more_in_run run more delay (finding.Is (verdict.Undecided k why)) there = tt
more_in_run run more delay (finding.Is (verdict.Broken k)) there = tt
more_in_run run more delay (finding.Late k) there = tt
