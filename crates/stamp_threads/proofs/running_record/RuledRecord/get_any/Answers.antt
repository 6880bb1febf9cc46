use Rattle.std.proofs.Common.{◌∙◌, replicate, arith, length-take-le}
use Rattle.std.proofs.lemmas.List.{drop-replicate}
use Rattle.std.proofs.lemmas.Slice.{drop-append-drop}
use Rattle.stamp_threads.proofs.running_record.RuledRecord.get_any.Goals as goal

pub of_row-requires-clause-zeros : goal.of_row-requires-clause-zeros
of_row-requires-clause-zeros g c =
    let w = c.width-width.result in
    drop-append-drop w (replicate 16 0) c.get_into.new.into w (omega arith)
    (c.get_into.ensures.width ∙
    length-take-le w (replicate 16 0) (omega (arith, c.self.invariant)))
    ∙ drop-replicate w 16 0
