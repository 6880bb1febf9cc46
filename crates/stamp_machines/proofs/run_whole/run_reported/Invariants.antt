use Rattle.std.proofs.Common.{◌≡◌, take}
use Rattle.stamp_machines.specs.inner.Tally.{tally_of, IsTallied}
use Rattle.stamp_machines.proofs.run_whole.run_reported.Given as goal

abbrev pub invariant-loop-thread : goal.invariant-loop-thread
invariant-loop-thread l =
    record {
      run : l.run ≡ record { script = l.script; steps = take l.thread-index l.script.steps };
      tallied : IsTallied l.run.script l.run.steps (tally_of l.tally);
    }
