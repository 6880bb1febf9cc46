use Rattle.std.proofs.Common.{◌<◌}
use Rattle.std.specs.Prelude.{take, IsTrue}
use Rattle.std.specs.List.{All}
use Rattle.stamp_core.specs.Call.{call_suits}
use Rattle.stamp_explain.specs.declared.observed.Observation.{Observation}
use Rattle.stamp_observed.proofs.candidate.are_suited.Given as goal

abbrev pub invariant-loop-entry : goal.invariant-loop-entry
invariant-loop-entry l = record {
  threads : All (λ (e : Observation). e.thread < 64) (take l.entry-index l.entry-items);
  suit : All (λ (e : Observation). IsTrue (call_suits l.observed.width e.call)) (take l.entry-index l.entry-items);
}
