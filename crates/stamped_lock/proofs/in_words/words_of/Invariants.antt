use Rattle.std.proofs.Common.{◌≡◌, map, take, length}
use Rattle.stamped_lock.proofs.in_words.words_of.Given as goal

abbrev pub invariant-loop-i : goal.invariant-loop-i
invariant-loop-i g l = record {
  long : length l.row ≡ length l.values;
  same : take l.i l.row ≡ map g.T.InWord.word (take l.i l.values);
  back : map g.T.InWord.value (take l.i l.row) ≡ take l.i l.values;
}
