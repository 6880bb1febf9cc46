use Rattle.std.proofs.Common.{◌≡◌, length}
use Rattle.timings.proofs.record.calls.gets_into.Given as goal

abbrev pub invariant-loop : goal.invariant-loop
invariant-loop l = record {
  table : l.pass.table ≡ l.shared.table;
  width : length l.into ≡ l.shared.shape.width;
}
