use Rattle.stamp_history.specs.HistoryFields.{pair_at}
use Rattle.stamp_history.proofs.EachItem.{IsReadTo}
use Rattle.stamp_history.proofs.history_fields.pairs_in.Given as goal

abbrev pub invariant-loop-value : goal.invariant-loop-value
invariant-loop-value l = IsReadTo pair_at l.list l.value-index l.pairs.items
