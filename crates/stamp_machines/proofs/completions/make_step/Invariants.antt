use Rattle.stamp_machines.specs.CompletionsFields.{calls_until}
use Rattle.stamp_machines.proofs.completions.make_step.Given as goal

-- the entries of the steps made were passed on
abbrev pub ghost-step : goal.ghost-step
ghost-step a = calls_until a.script.now a.position
