use Rattle.std.specs.Prelude.{◌≡◌, ◌+◌, ◌≤◌, take, drop}
use Rattle.stamped_explain.specs.Trials.{overlapping, overlapping_after}
use Rattle.stamped_explain.specs.inner.Trials.{IsLastOf}
use Rattle.stamped_explain.proofs.trials.overlapping.Given as goal

abbrev pub invariant-loop-i : goal.invariant-loop-i
invariant-loop-i l = record {
  few : l.count ≤ l.i;
  last : IsLastOf (take l.i l.entries) l.last;
  counted : l.count + overlapping_after (take l.i l.entries) (drop l.i l.entries) ≡ overlapping l.entries;
}
