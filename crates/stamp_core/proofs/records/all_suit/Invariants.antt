use Rattle.std.proofs.Common.{ℕ, ◌<◌, get_or}
use Rattle.stamp_core.specs.declared.entry.Entry.{Entry}
use Rattle.stamp_core.specs.Record.{EntrySuits, HasFewWords}
use Rattle.stamp_core.proofs.records.all_suit.Given as goal

abbrev pub invariant-loop-entry : goal.invariant-loop-entry
invariant-loop-entry l = record {
  suit : (k : ℕ) (d : Entry) → k < l.entry-index → EntrySuits l.width (get_or l.entries k d);
  replies : (k : ℕ) (d : Entry) → k < l.entry-index → HasFewWords (get_or l.entries k d).reply;
}
