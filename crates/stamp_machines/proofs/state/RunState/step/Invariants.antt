use Rattle.stamp_machines.proofs.state.RunState.step.Given as goal

abbrev pub ghost-begin : goal.ghost-begin
ghost-begin g a = g.gone
