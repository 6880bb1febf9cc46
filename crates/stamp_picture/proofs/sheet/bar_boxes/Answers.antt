use Rattle.std.proofs.Common.{[]}
use Rattle.stamp_picture.specs.Sheet.{bar_box}
use Rattle.stamp_picture.proofs.OneByOne.{boxed_more}
use Rattle.stamp_picture.proofs.sheet.bar_boxes.Goals as goal

pub loop-bar-preserved : goal.loop-bar-preserved
loop-bar-preserved c =
    boxed_more (bar_box c.args.verdict.now c.args.positions.now) c.args.bars.now c.loop-bar.bar-index c.bar-item.result
    _ _ _ [] c.loop-bar-test.true c.bar-item.is c.loop-bar.invariant c.in_ok-push.ensures.items
    c.in_ok-bar_box.ensures
