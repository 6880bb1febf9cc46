use Rattle.stamp_history.proofs.EachItem.{read_more}
use Rattle.stamp_observed.specs.ObservedFields.{entry_at}
use Rattle.stamp_observed.proofs.observed_fields.entries_in.Goals as goal

pub loop-index-preserved : goal.loop-index-preserved
loop-index-preserved c =
    read_more (entry_at c.args.width) c.args.list.now c.loop-index.index c.index-list-index.result _ _
    c.in_ok-entry.entry c.loop-index-test.true c.index-list-index.is c.in_ok-entry.ensures c.in_ok-push.ensures.items
    c.loop-index.invariant
