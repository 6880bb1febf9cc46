use Rattle.std.proofs.Common.{[]}
use Rattle.stamp_machines.proofs.running.Run.make_step.Given as goal

-- a run keeps all its entries
abbrev pub ghost-step : goal.ghost-step
ghost-step a = []
