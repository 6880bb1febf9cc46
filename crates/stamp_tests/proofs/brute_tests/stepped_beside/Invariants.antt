use Rattle.std.proofs.Common.{◌≡◌, take}
use Rattle.stamp_tests.proofs.brute_tests.stepped_beside.Given as goal

abbrev pub invariant-loop-thread : goal.invariant-loop-thread
invariant-loop-thread l = l.run ≡ record { script = l.script; steps = take l.thread-index l.script.steps }
