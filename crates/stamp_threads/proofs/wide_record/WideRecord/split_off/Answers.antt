use Rattle.std.proofs.Common.{rules, ◌∙◌, ap, sym, refl}
use Rattle.atomic_table.specs.Seated.{TableId}
use Rattle.stamp_threads.proofs.RecordMoves.{splits_consistent}
use Rattle.stamp_threads.proofs.wide_record.WideRecord.split_off.Goals as goal

pub invariant_of-pass : goal.invariant_of-pass
invariant_of-pass g c =
    let words = sym (ap (λ (t : TableId). t.words) c.split-seat.ensures.given.0) in
    rw c.split-seat.ensures.given.1 (
      refl,
      c.pass.invariant.1,
      λ width is. (splits_consistent width _ c.pass.invariant.1
          (c.pass.invariant.2 width (words ∙ is))).0,
    )

pub invariant_of-result : goal.invariant_of-result
invariant_of-result g c =
    let words = sym (ap (λ (t : TableId). t.words) c.split-seat.ensures.new.0) in
    rw c.split-seat.ensures.new.1 (
      refl,
      c.pass.invariant.1,
      λ width is. (splits_consistent width _ c.pass.invariant.1
          (c.pass.invariant.2 width (words ∙ is))).1,
    )

pub returns-clause-all_consistent : goal.returns-clause-all_consistent
returns-clause-all_consistent g c = rw (c.split-seat.ensures.given.1, c.split-seat.ensures.new.1)
    (splits_consistent _ _ c.pass.invariant.1 (c.pass.invariant.2 _ (search rules)))
