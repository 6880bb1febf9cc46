use Rattle.stamp_history.specs.ScriptValue.{step_at}
use Rattle.stamp_history.proofs.EachItem.{IsReadTo}
use Rattle.stamp_history.proofs.script_fields.steps_in.Given as goal

abbrev pub invariant-loop-index : goal.invariant-loop-index
invariant-loop-index l = IsReadTo step_at l.list l.index l.steps.items
