use Rattle.stamp_history.proofs.EachItem.{IsReadTo}
use Rattle.stamp_history.specs.HistoryFields.{entry_at}
use Rattle.stamp_history.proofs.history_fields.entries_in.Given as goal

abbrev pub invariant-loop-index : goal.invariant-loop-index
invariant-loop-index l = IsReadTo (entry_at l.width) l.list l.index l.entries.items
