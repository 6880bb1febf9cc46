use Rattle.std.proofs.Common.{subst, sym}
use Rattle.std.proofs.lemmas.Bool.{false≢true}
use Rattle.stamp_core.specs.Limits.{Bounds}
use Rattle.stamp_core.specs.Word.{IsAdmitted, word_at}
use Rattle.stamped_watch.proofs.Starts.{is_admitted}
use Rattle.stamped_watch.proofs.witness.state_at.Goals as goal

pub unreachable-requires-in_default-word_from_bits : goal.unreachable-requires-in_default-word_from_bits
unreachable-requires-in_default-word_from_bits c =
    let base = c.args.judge.now.course.base in
    let admitted = is_admitted _ base c.requires.keeps.keeps.from_base.judging.watching c.in-Some.bits
    c.args.start (sym c.in-Some.ensures.word) in
    false≢true (c.in_default-word_from_bits.ensures.some.1
    (subst (λ (l : Bounds). IsAdmitted l (word_at l c.in-Some.bits)) (sym c.limits.ensures) admitted))
