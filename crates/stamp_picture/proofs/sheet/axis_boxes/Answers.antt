use Rattle.std.proofs.Common.{◌≡◌, ◌%◌, ℕ, Bool, true, false, refl, arith}
use Rattle.std.specs.Prelude.{◌==◌}
use Rattle.stamp_picture.specs.Frames.{stride}
use Rattle.stamp_picture.specs.Sheet.{axis_box}
use Rattle.stamp_picture.proofs.OneByOne.{named_more, unnamed_more}
use Rattle.stamp_picture.proofs.sheet.axis_boxes.Goals as goal
use Rattle.stamp_picture.proofs.sheet.axis_boxes.Goals.{then-column-stride-eq0+in_ok-axis_box+in_ok-push}
use Rattle.stamp_picture.proofs.sheet.axis_boxes.Goals.{else-column-stride-eq0}

pub loop-column-preserved : goal.loop-column-preserved
loop-column-preserved c =
    let positions = c.args.positions.now in
    let n = c.loop-column.column in
    let is_named : ℕ → Bool = λ k. k % stride positions == 0 in
    let box = axis_box positions c.args.lanes in
    let old = c.loop-column.boxes.items in
    let every = c.stride-stride.ensures.is in
    elim c.if-column-stride-eq0.branch [
      | then-column-stride-eq0+in_ok-axis_box+in_ok-push w ↦
          let on : (n % stride positions == 0) ≡ true = grind (arith, every, w.if-column-stride-eq0.true) in
          rw w.boxes-is (named_more is_named box n old _ _ on c.loop-column.invariant w.in_ok-push.ensures.items
          w.in_ok-axis_box.ensures)
      | else-column-stride-eq0 w ↦
          let off : (n % stride positions == 0) ≡ false = grind (arith, every, w.if-column-stride-eq0.false) in
          rw w.boxes-is (unnamed_more is_named box n old _ off c.loop-column.invariant refl)
    ]
