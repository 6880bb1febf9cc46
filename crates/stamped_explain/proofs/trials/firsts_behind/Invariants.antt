use Rattle.std.specs.Prelude.{◌≡◌, ◌-◌, drop, length}
use Rattle.stamped_explain.specs.inner.Trials.{IsFirstOf, AreFirstsBehind}
use Rattle.stamped_explain.proofs.trials.firsts_behind.Given as goal

abbrev pub invariant-loop-k : goal.invariant-loop-k
invariant-loop-k l = record {
  each : AreFirstsBehind l.entries l.firsts.items;
  count : length l.firsts.items ≡ l.k;
  first : IsFirstOf (drop (length l.entries - l.k) l.entries) l.first;
}
