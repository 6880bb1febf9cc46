use Rattle.std.proofs.Common.{◌≡◌, take}
use Rattle.stamp_tests.proofs.schedule_tests.stepped_through.Given as goal

abbrev pub invariant-loop-thread : goal.invariant-loop-thread
invariant-loop-thread l = l.run ≡ record { script = l.script; steps = take l.thread-index l.script.steps }
