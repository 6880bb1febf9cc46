use Rattle.std.specs.Prelude.{◌≡◌, map, take}
use Rattle.stamp_watch.specs.Names.{words_in}
use Rattle.stamped_watch.specs.Calls.{observation_by}
use Rattle.stamped_watch.proofs.in_words.in_words.Given as goal

abbrev pub invariant-loop-i : goal.invariant-loop-i
invariant-loop-i l = l.told.items ≡ map (observation_by (words_in l.names)) (take l.i l.calls)
