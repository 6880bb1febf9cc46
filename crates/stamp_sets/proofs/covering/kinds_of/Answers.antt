use Rattle.std.proofs.Common.{ℕ, ◌≡◌, true, Some, sym, ◌∙◌, subst}
use Rattle.stamp_sets.specs.declared.covering.Kinds.{Kinds}
use Rattle.stamp_sets.specs.declared.ending.Ending.TheVariants.{Never}
use Rattle.stamp_sets.specs.declared.open_call.OpenCall.{OpenCall}
use Rattle.stamp_sets.specs.Judged.{guarded}
use Rattle.stamp_sets.specs.Unchanging.{reads_only}
use Rattle.stamp_sets.specs.inner.Covering.{AreKinds}
use Rattle.stamp_sets.proofs.CountingLanes.{lanes_in_less}
use Rattle.stamp_sets.proofs.Thinning.{none_open_as}
use Rattle.stamp_sets.proofs.covering.kinds_of.Goals as goal
use Rattle.stamp_sets.proofs.covering.kinds_of.Goals.{in-Some, in_default}

pub loop-rest-init : goal.loop-rest-init
loop-rest-init c = record {
  busy = c.requires;
  overwriting = none_open_as c.args.table.now (λ (b : OpenCall). (number : ℕ) × (guarded.overwrites b ≡ Some number));
  reading = none_open_as c.args.table.now (λ (b : OpenCall). reads_only b ≡ true);
  endless = none_open_as c.args.table.now (λ (b : OpenCall). b.ends ≡ Never);
}

pub loop-rest-preserved : goal.loop-rest-preserved
loop-rest-preserved c = elim c.match-open_in.branch [
  | in-Some w ↦ subst (λ (k : Kinds). AreKinds guarded c.args.table.now k) (sym w.kinds-is)
      (w.with_kind-kinds.ensures c.args.table.now (sym c.open_in.ensures ∙ w.in-Some.is) c.loop-rest.invariant)
  | in_default w ↦ subst (λ (k : Kinds). AreKinds guarded c.args.table.now k) (sym w.kinds-is)
      c.loop-rest.invariant
]

pub loop-rest-smaller : goal.loop-rest-smaller
loop-rest-smaller c = lanes_in_less c.loop-rest.rest c.without_lane-rest.result c.first_lane-lane.result
    c.first_lane-lane.ensures.within c.without_lane-rest.ensures c.first_lane-lane.ensures.among
