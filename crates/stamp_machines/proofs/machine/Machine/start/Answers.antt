use Rattle.stamp_machines.proofs.machine.Machine.start.Goals as goal

pub invariant_of-result : goal.invariant_of-result
invariant_of-result c = c.first_stage-stage.ensures.sound _
