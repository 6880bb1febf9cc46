use Rattle.std.proofs.Common.{◌≡◌, ◌-◌, length, take, drop, replicate}
use Rattle.stamp_core.proofs.words.Words.new.Given as goal

abbrev pub invariant-loop-i : goal.invariant-loop-i
invariant-loop-i l = record {
  size : length l.held ≡ 16;
  filled : take l.i l.held ≡ take l.i l.words;
  rest : drop l.i l.held ≡ replicate (16 - l.i) 0;
}
