use Rattle.std.proofs.Common.{◌∙◌, ap}
use Rattle.stamp_core.specs.LockEvent.{Counts}
use Rattle.stamp_core.proofs.WordCounts.{counts_in-represented}
use Rattle.stamp_core.proofs.word.Word.writes.Goals as goal

pub returns : goal.returns
returns c = λ limits events range represented. c.write_count.ensures ∙
    ap (λ (n : Counts). n.write_count) (counts_in-represented limits c.args.self.now events range represented)
