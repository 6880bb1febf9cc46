use Rattle.std.proofs.Common.{◌≡◌, map, vec_len}
use Rattle.std.specs.Vec.Iter.{into_iter_items}
use Rattle.serde_json.specs.View.{items_view}
use Rattle.stamp_machines.specs.ScriptFault.{thread_calls}
use Rattle.stamp_history.specs.JsonReading.{each}
use Rattle.stamp_history.specs.ScriptValue.{thread_at}
use Rattle.stamp_history.proofs.EachItem.{with_front}
use Rattle.stamp_history.proofs.script_fields.threads_in.Given as goal

abbrev pub invariant-loop-value : goal.invariant-loop-value
invariant-loop-value l = with_front (map thread_calls l.threads.items)
    (each thread_at (vec_len l.threads) (items_view (into_iter_items l.value-iterator))) ≡
    each thread_at 0 (items_view l.fn.list.items)
