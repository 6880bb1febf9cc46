-- An event that may not come behind a run, and what a verdict on a run in form may be.
use Rattle.std.proofs.Common.{ℕ, ◌≡◌, ◌≢◌, ◌⊎◌, ◌+◌, ◌<◌, Bool, true, false, List, [], ◌∷◌, ◌++◌, length, Option, None}
use Rattle.std.proofs.Common.{Some}
use Rattle.std.proofs.Common.{refl, sym, ◌∙◌, ap, subst, inl, inr, arith}
use Rattle.std.specs.Prelude.{MatchOption, take}
use Rattle.std.proofs.lemmas.Bool.{cases_order, false≢true}
use Rattle.std.proofs.lemmas.List.{length-append, take-append-le, take_all}
use Rattle.std.proofs.lemmas.List.Elements.{All-push}
use Rattle.std.proofs.Math.Seq.{take-append_seam}
use Rattle.stamp_core.specs.Limits.{Bounds}
use Rattle.stamp_runs.specs.declared.event.Event.{Event}
use Rattle.stamp_runs.specs.declared.event.Event.TheVariants.{Begins, Returns, Withdraws}
use Rattle.stamp_runs.specs.BothRun.{AreExplained}
use Rattle.stamp_watch.specs.declared.late.LateJudge.{LateJudge}
use Rattle.stamp_watch.specs.declared.late_verdict.LateVerdict.{LateVerdict}
use Rattle.stamp_watch.specs.declared.late_verdict.LateVerdict.TheVariants.{Is, Late}
use Rattle.stamp_watch.specs.declared.verdict.Verdict.{Verdict}
use Rattle.stamp_watch.specs.declared.verdict.Verdict.TheVariants as verdict
use Rattle.stamp_runs.specs.Own.{MayCome, none_open, open_after}
use Rattle.stamp_watch.specs.Form.{is_busy_after}
use Rattle.stamp_watch.specs.Late.{IsLateFound, IsLateVerdict}
use Rattle.stamp_watch.specs.LateJudge.{IsLateFoundThen, IsLateJudge}
use Rattle.stamp_watch.specs.Judging.{IsFound}
use Rattle.stamp_watch.specs.Verdict.{AreBrokenAt, AreOfLanes, IsOfLane, IsVerdict}
use Rattle.stamp_watch.proofs.Form.{form_goes_on, none_is}
use Rattle.stamp_watch.proofs.Forming.{next_of_lane, of_lanes_up_to}
use Rattle.stamp_watch.proofs.Running.{found_now}
use Rattle.stamped_watch.specs.declared.misplaced.Misplaced.{Misplaced}
use Rattle.stamped_watch.specs.declared.misplaced.Misplaced.TheVariants.{Lane, Open, Idle}
use Rattle.stamped_watch.specs.Finding.{IsMisplaced}
use Rattle.stamped_watch.specs.Finding.{IsLateOfForm, IsMisplacedSo, IsOfForm}
use Rattle.stamped_watch.specs.StreamJudge.{IsMisplacedAt, IsSmallEvent}

not_false : (b : Bool) → (b ≡ false → ⊥) → b ≡ true
not_false true none = refl
not_false false none = absurd (none refl)

not_true : (b : Bool) → (b ≡ true → ⊥) → b ≡ false
not_true true none = absurd (none refl)
not_true false none = refl

module _ (run : List Event) (whole : AreOfLanes run) where
  goes_on : (e : Event) → MayCome (open_after run) e → IsOfLane e → AreOfLanes (run ++ e ∷ [])
  goes_on e may is = record {
    form = form_goes_on none_open run e whole.form may;
    lanes = All-push IsOfLane run e whole.lanes is;
  }

  misplaced_so : (e : Event) (why : Misplaced) → IsSmallEvent e → ¬ AreOfLanes (run ++ e ∷ []) →
      IsMisplacedSo e why → IsMisplaced run e why
  misplaced_so e Lane some none is = is
  misplaced_so (Begins lane call) Open some none is =
      let below : lane < 64 = omega (arith, is.0) in (
        below,
        refl,
        not_false (is_busy_after run lane)
            (λ free. none (goes_on (Begins lane call) (none_is (open_after run lane) free)
            (below, some))),
      )
  misplaced_so (Returns lane reply) Open some none is = absurd (false≢true is.1)
  misplaced_so (Withdraws lane) Open some none is = absurd (false≢true is.1)
  misplaced_so (Begins lane call) Idle some none is = absurd (false≢true (sym is.1))
  misplaced_so (Returns lane reply) Idle some none is =
      let below : lane < 64 = omega (arith, is.0) in (
        below,
        refl,
        not_true (is_busy_after run lane)
            (λ busy. none (goes_on (Returns lane reply) busy (below, some))),
      )
  misplaced_so (Withdraws lane) Idle some none is =
      let below : lane < 64 = omega (arith, is.0) in (
        below,
        refl,
        not_true (is_busy_after run lane) (λ busy. none (goes_on (Withdraws lane) busy below)),
      )

  -- only the event behind the run can be the first that may not come
  broken_here : (e : Event) (k : ℕ) → AreBrokenAt (run ++ e ∷ []) k → k ≡ length run
  broken_here e k broken = by (cases_order k (length run))
    where
      long : length (run ++ e ∷ []) ≡ length run + length (e ∷ [])
      long = length-append run (e ∷ [])

      by : (k ≡ length run) ⊎ ((k < length run) ⊎ (length run < k)) → k ≡ length run
      by (inl same) = same
      by (inr (inl less)) = absurd (broken.broken (subst AreOfLanes
          (sym (take-append-le (k + 1) run (e ∷ []) (omega (arith, less)))) (of_lanes_up_to (k + 1) run whole)))
      by (inr (inr more)) = absurd (broken.broken (subst AreOfLanes
          (take_all k (run ++ e ∷ []) (omega (arith, more, long)) ∙
          sym (take_all (k + 1) (run ++ e ∷ []) (omega (arith, more, long)))) broken.whole))

-- no run is explained whatever comes later
never_explained : (limits : Bounds) (run : List Event) (most : ℕ) (ahead : Option ℕ) →
    ¬ IsFound limits run most ahead verdict.Explained
never_explained limits run most ahead found =
    let below : 64 < 64 = next_of_lane run (Withdraws 64) [] (found (Withdraws 64 ∷ [])).0 in
    omega (arith, below)

-- so a verdict that holds whatever comes later is that it is broken, or of form
of_form : (limits : Bounds) (run : List Event) (most : ℕ) (ahead : Option ℕ) (v : Verdict) →
    IsFound limits run most ahead v → ((k : ℕ) → v ≢ verdict.Broken k) → IsOfForm v
of_form limits run most ahead verdict.Explained found other = never_explained limits run most ahead found
of_form limits run most ahead (verdict.Stuck k) found other = tt
of_form limits run most ahead (verdict.StuckWithin k m) found other = tt
of_form limits run most ahead (verdict.Undecided k why) found other = tt
of_form limits run most ahead (verdict.Broken k) found other = absurd (other k refl)

pub late_of_form : (limits : Bounds) (run : List Event) (most ahead : ℕ) (v : LateVerdict) →
    IsLateFound limits run most ahead v → ((k : ℕ) → v ≢ Is (verdict.Broken k)) → IsLateOfForm v
late_of_form limits run most ahead (Is v) found other =
    of_form limits run most None v found (λ k same. other k (ap Is same))
late_of_form limits run most ahead (Late k) found other = tt

-- no run in form is broken, so a verdict on one as it ends is that it is explained, or of form
form_here : (limits : Bounds) (run : List Event) (most : ℕ) (ahead : Option ℕ) (v : Verdict) → AreOfLanes run →
    IsVerdict limits run most ahead v → v ≢ verdict.Explained → IsOfForm v
form_here limits run most ahead verdict.Explained whole is other = absurd (other refl)
form_here limits run most ahead (verdict.Stuck k) whole is other = tt
form_here limits run most ahead (verdict.StuckWithin k m) whole is other = tt
form_here limits run most ahead (verdict.Undecided k why) whole is other = tt
form_here limits run most ahead (verdict.Broken k) whole is other =
    absurd (is.0.broken (of_lanes_up_to (k + 1) run whole))

pub late_form_here : (limits : Bounds) (run : List Event) (most ahead : ℕ) (v : LateVerdict) → AreOfLanes run →
    IsLateVerdict limits run most ahead v → v ≢ Is verdict.Explained → IsLateOfForm v
late_form_here limits run most ahead (Is v) whole is other =
    form_here limits run most None v whole is (λ same. other (ap Is same))
late_form_here limits run most ahead (Late k) whole is other = tt

-- where a run in form is broken with one event more, that may not come behind it
module _ (limits : Bounds) (run : List Event) (most : ℕ) (ahead : Option ℕ) (e : Event) (k : ℕ) (whole : AreOfLanes run)
    (found : IsFound limits (run ++ e ∷ []) most ahead (verdict.Broken k)) where
  now : AreBrokenAt (run ++ e ∷ []) k × AreExplained limits (take k (run ++ e ∷ []))
  now = found_now limits (run ++ e ∷ []) most ahead (verdict.Broken k) found

  here : k ≡ length run
  here = broken_here run whole e k now.0

  front : take k (run ++ e ∷ []) ≡ run
  front = ap (λ (n : ℕ). take n (run ++ e ∷ [])) here ∙ take-append_seam run (e ∷ [])

  not_whole : ¬ AreOfLanes (run ++ e ∷ [])
  not_whole all = now.0.broken (of_lanes_up_to (k + 1) (run ++ e ∷ []) all)

  pub misplaced_at : (why : Misplaced) → IsSmallEvent e → IsMisplacedSo e why → IsMisplacedAt limits run e k why
  misplaced_at why some so = record {
    place = here;
    whole = whole;
    explained = subst (AreExplained limits) front now.1;
    misplaced = misplaced_so run whole e why some not_whole so;
  }

-- the verdict that was found with an event
pub found_then : (limits : Bounds) (most ahead : ℕ) (run : List Event) (e : Event) (judge : LateJudge)
    (o : Option LateVerdict) (v : LateVerdict) → IsLateFoundThen e judge o → o ≡ Some v →
    IsLateJudge limits most ahead run judge → IsLateFound limits (run ++ e ∷ []) most ahead v
found_then limits most ahead run e judge o v then some is = subst (λ (p : Option LateVerdict).
    MatchOption p (AreOfLanes (run ++ e ∷ [])) (λ w. IsLateFound limits (run ++ e ∷ []) most ahead w)) some
    (then limits most ahead run is)
