use Rattle.stamp_machines.proofs.TallySteps.{none-tallied}
use Rattle.stamp_machines.proofs.run_whole.run_reported.Goals as goal

pub loop-thread-init : goal.loop-thread-init
loop-thread-init c =
    record {
      run = c.in_ok-run.ensures.ok;
      tallied = rw (c.in_ok-run.ensures.ok, c.in_ok-tally.ensures)
          (none-tallied c.args.script.now c.thread_count.result c.thread_count.ensures.count);
    }
