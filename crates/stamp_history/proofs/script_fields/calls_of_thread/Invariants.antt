use Rattle.std.proofs.Common.{◌≡◌, vec_len}
use Rattle.std.specs.Vec.Iter.{into_iter_items}
use Rattle.serde_json.specs.View.{items_view}
use Rattle.stamp_history.specs.JsonReading.{each}
use Rattle.stamp_history.specs.ScriptValue.{call_at}
use Rattle.stamp_history.proofs.EachItem.{with_front}
use Rattle.stamp_history.proofs.script_fields.calls_of_thread.Given as goal

abbrev pub invariant-loop-value : goal.invariant-loop-value
invariant-loop-value l = with_front l.calls.items
    (each (call_at l.thread) (vec_len l.calls) (items_view (into_iter_items l.value-iterator))) ≡
    each (call_at l.thread) 0 (items_view l.fn.list.items)
