use Rattle.std.proofs.Common.{◌≡◌, drop}
use Rattle.serde_json.specs.View.{items_view}
use Rattle.stamp_history.specs.ScriptValue.{are_lists}
use Rattle.stamp_history.proofs.script_fields.are_lists.Given as goal

abbrev pub invariant-loop-value : goal.invariant-loop-value
invariant-loop-value l = are_lists (items_view (drop l.value-index l.list)) ≡ are_lists (items_view l.list)
