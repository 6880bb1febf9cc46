use Rattle.std.proofs.Common.{◌≡◌, ◌≤◌}
use Rattle.std.specs.Prelude.{take}
use Rattle.stamp_observed.specs.Issued.{writes_by}
use Rattle.stamp_observed.proofs.issued.writes_by.Given as goal

abbrev pub invariant-loop-call : goal.invariant-loop-call
invariant-loop-call l = record {
  few : l.writes ≤ l.call-index;
  count : l.writes ≡ writes_by l.last (take l.call-index l.calls);
}
