use Rattle.std.specs.Prelude.{◌≡◌, length}
use Rattle.stamped_watch.specs.Witness.{AreSoughtOn}
use Rattle.stamped_watch.proofs.witness.any_witness.Given as goal

abbrev pub invariant-loop-start : goal.invariant-loop-start
invariant-loop-start l = record {
  each : AreSoughtOn l.run l.judge l.number l.ended l.most 0 l.in_vain.items;
  count : length l.in_vain.items ≡ l.start;
}
