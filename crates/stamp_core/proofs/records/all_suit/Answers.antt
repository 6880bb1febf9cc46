use Rattle.stamp_core.specs.declared.entry.Entry.{Entry}
use Rattle.stamp_core.specs.Record.{EntrySuits, HasFewWords}
use Rattle.stamp_core.proofs.Suiting.{each_more}
use Rattle.stamp_core.proofs.records.all_suit.Goals as goal

pub loop-entry-preserved : goal.loop-entry-preserved
loop-entry-preserved c = record {
  suit = each_more (EntrySuits c.args.width) c.args.entries.now c.loop-entry.entry-index c.entry-item.result
      c.loop-entry-test.true c.entry-item.is c.loop-entry.invariant.suit
      (c.entry_suits.ensures.suits.0 c.if-not-entry_suits.false);
  replies = each_more (λ (e : Entry). HasFewWords e.reply) c.args.entries.now c.loop-entry.entry-index
      c.entry-item.result c.loop-entry-test.true c.entry-item.is c.loop-entry.invariant.replies
      c.entry_suits.ensures.reply;
}
