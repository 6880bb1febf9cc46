use Rattle.stamp_machines.proofs.RunFacts.{run-in-order}
use Rattle.stamp_machines.proofs.running.Run.finished.Goals as goal

pub returns-clause-linearized : goal.returns-clause-linearized
returns-clause-linearized c =
    rw (← c.self.view_is, c.deref.ensures.value)
    (run-in-order c.self.inside c.self.invariant).linearized
