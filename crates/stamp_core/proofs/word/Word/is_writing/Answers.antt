use Rattle.std.proofs.Common.{◌≡◌, ap, arith}
use Rattle.std.proofs.lemmas.Bool.Decides.{nat_tests}
use Rattle.stamp_core.specs.LockEvent.{Counts, writers}
use Rattle.stamp_core.specs.Decoded.{counts_in}
use Rattle.stamp_core.proofs.WordCounts.{counts_in-represented}
use Rattle.stamp_core.proofs.word.Word.is_writing.Goals as goal

pub returns : goal.returns
returns c = λ limits events range represented.
    let same : (counts_in c.args.self.now).writers ≡ writers events =
    ap (λ (n : Counts). n.writers) (counts_in-represented limits c.args.self.now events range represented) in
    grind (arith, nat_tests, c.has_writer.ensures)
