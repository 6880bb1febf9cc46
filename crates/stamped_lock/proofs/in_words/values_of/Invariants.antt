use Rattle.std.proofs.Common.{◌≡◌, map, take, length}
use Rattle.stamped_lock.proofs.in_words.values_of.Given as goal

abbrev pub invariant-loop-i : goal.invariant-loop-i
invariant-loop-i g l = record {
  long : length l.values ≡ length l.row;
  same : take l.i l.values ≡ map g.T.InWord.value (take l.i l.row);
}
