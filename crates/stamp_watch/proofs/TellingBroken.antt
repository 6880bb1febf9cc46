-- What is told of a run that is explained before an event which may not come there.
use Rattle.std.proofs.Common.{ℕ, ◌≡◌, ◌⊎◌, ◌+◌, ◌<◌, ◌≤◌, List, length, Option, None, sym, ap, subst, inl, inr, arith}
use Rattle.std.specs.Prelude.{take, drop}
use Rattle.std.proofs.lemmas.Bool.{cases_lt, cases_order}
use Rattle.std.proofs.lemmas.List.{length-take-le, take-append-drop, take-take}
use Rattle.stamp_core.specs.Limits.{Bounds}
use Rattle.stamp_runs.specs.declared.event.Event.{Event}
use Rattle.stamp_runs.specs.BothRun.{AreExplained}
use Rattle.stamp_watch.specs.declared.late_verdict.LateVerdict.{LateVerdict}
use Rattle.stamp_watch.specs.declared.late_verdict.LateVerdict.TheVariants.{Is, Late}
use Rattle.stamp_watch.specs.declared.verdict.Verdict.{Verdict}
use Rattle.stamp_watch.specs.declared.verdict.Verdict.TheVariants.{Explained, Stuck, StuckWithin, Undecided, Broken}
use Rattle.stamp_watch.specs.declared.verdict.Why.TheVariants.{TooMany, TooFar}
use Rattle.stamp_watch.specs.Late.{IsLateVerdict}
use Rattle.stamp_watch.specs.Verdict.{AreBrokenAt, AreOfLanes, IsVerdict}
use Rattle.stamp_watch.specs.WatchLaws.{BrokenIsTold, BrokenIsToldLate, GivesUpBefore, IsLateBefore}
use Rattle.stamp_watch.proofs.Forming.{of_lanes_up_to}
use Rattle.stamp_watch.proofs.Surviving.{shorter_stay_explained}

module _ (limits : Bounds) (run : List Event) (k : ℕ) (broken : AreBrokenAt run k)
    (explained : AreExplained limits (take k run)) where
  -- no more than the first k events are in form
  before_it : (n : ℕ) → AreOfLanes (take n run) → n ≤ k
  before_it n whole = by (cases_lt k n)
    where
      by : (k < n) ⊎ (n ≤ k) → n ≤ k
      by (inl more) = absurd (broken.broken (subst AreOfLanes (take-take (k + 1) n run (omega (arith, more)))
          (of_lanes_up_to (k + 1) (take n run) whole)))
      by (inr within) = within

  explained_before : (n : ℕ) → n ≤ k → AreExplained limits (take n run)
  explained_before n less = subst (AreExplained limits) (take-take n k run less)
      (shorter_stay_explained limits (take n (take k run)) (drop n (take k run))
      (subst (AreExplained limits) (sym (take-append-drop n (take k run))) explained))

  -- it is broken at no other event
  same_place : (j : ℕ) → AreBrokenAt run j → j ≡ k
  same_place j is = by (cases_order j k)
    where
      by : (j ≡ k) ⊎ ((j < k) ⊎ (k < j)) → j ≡ k
      by (inl same) = same
      by (inr (inl less)) = absurd (is.broken (subst AreOfLanes (take-take (j + 1) k run (omega (arith, less)))
          (of_lanes_up_to (j + 1) (take k run) broken.whole)))
      by (inr (inr more)) = let within : j ≤ k = before_it j is.whole in absurd (omega (arith, more, within))

  told : (most : ℕ) (ahead : Option ℕ) (v : Verdict) → IsVerdict limits run most ahead v →
      (v ≡ Broken k) ⊎ GivesUpBefore v k
  told most ahead Explained has = absurd (broken.broken (of_lanes_up_to (k + 1) run has.0))
  told most ahead (Stuck j) has = absurd (has.1.stuck (explained_before (j + 1) (before_it (j + 1) has.0)))
  told most ahead (StuckWithin j m) has = absurd (has.stuck (explained_before m (before_it m has.whole)))
  told most ahead (Undecided j TooMany) has =
      let within : j + 1 ≤ k = before_it (j + 1) has.0.whole in inr (omega (arith, within))
  told most ahead (Undecided j TooFar) has =
      let within : j + 1 ≤ k = before_it (j + 1) has.0.whole in inr (omega (arith, within))
  told most ahead (Broken j) has = inl (ap Broken (same_place j has.0))

  told_late : (most ahead : ℕ) (f : LateVerdict) → IsLateVerdict limits run most ahead f →
      (f ≡ Is (Broken k)) ⊎ IsLateBefore f k
  told_late most ahead (Is v) has = by (told most None v has)
    where
      by : (v ≡ Broken k) ⊎ GivesUpBefore v k → (Is v ≡ Is (Broken k)) ⊎ GivesUpBefore v k
      by (inl same) = inl (ap Is same)
      by (inr before) = inr before
  told_late most ahead (Late j) has =
      let there : j < length (take has.place run) = has.is.there in
      let long : length (take has.place run) ≡ has.place = length-take-le has.place run has.up_to.within in
      let within : has.place ≤ k = before_it has.place has.up_to.whole in inr (omega (arith, there, long, within))

pub broken_is_told : BrokenIsTold
broken_is_told limits run most k ahead v broken explained has = told limits run k broken explained most ahead v has

pub broken_is_told_late : BrokenIsToldLate
broken_is_told_late limits run most ahead k f broken explained has =
    told_late limits run k broken explained most ahead f has
