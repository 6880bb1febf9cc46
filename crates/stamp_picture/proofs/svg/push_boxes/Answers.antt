use Rattle.stamp_picture.specs.Svg.{box_text}
use Rattle.stamp_picture.proofs.Appending.{item_written}
use Rattle.stamp_picture.proofs.svg.push_boxes.Goals as goal

pub loop-labelled-preserved : goal.loop-labelled-preserved
loop-labelled-preserved c =
    let s = c.labelled-item.result in
    item_written box_text c.args.boxes.now c.loop-labelled.labelled-index s s _ _ _ c.loop-labelled-test.true
    c.labelled-item.is c.loop-labelled.invariant c.in_ok-push_box.ensures
