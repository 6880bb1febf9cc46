use Rattle.std.proofs.Common.{◌≡◌, ◌∙◌, sym, true, false, rules, tests}
use Rattle.stamp_picture.specs.Sheet.{same_content, boxes_of}
use Rattle.stamp_picture.proofs.OneByOne.{kept_more, changed_more}
use Rattle.stamp_picture.proofs.sheet.content_boxes.Goals as goal
use Rattle.stamp_picture.proofs.sheet.content_boxes.Goals.{then-not-same_content+in_ok-content_box+in_ok-push-2}
use Rattle.stamp_picture.proofs.sheet.content_boxes.Goals.{else-not-same_content}

pub loop-moment-preserved : goal.loop-moment-preserved
loop-moment-preserved c =
    let positions = c.args.positions.now in
    let ms = c.args.ribbon.now in
    let m = c.moment-item.result in
    let i = c.loop-moment.moment-index in
    elim c.if-not-same_content.branch [
      | then-not-same_content+in_ok-content_box+in_ok-push-2 w ↦
          let same : same_content c.loop-moment.held m.state.content ≡ false =
          sym c.same_content.ensures ∙ search (rules, tests) in
          rw (w.boxes-is, w.held-is, w.x-is, w.point_x-until.ensures) (changed_more positions c.loop-moment.x
          c.loop-moment.held ms i m _ _ _ _ c.loop-moment-test.true c.moment-item.is same
          w.in_ok-push-2.ensures.items (rw w.point_x-until.ensures at w.in_ok-content_box.ensures) c.loop-moment.invariant)
      | else-not-same_content w ↦
          let same : same_content c.loop-moment.held m.state.content ≡ true =
          sym c.same_content.ensures ∙ search (rules, tests) in
          rw (w.boxes-is, w.held-is, w.x-is) (kept_more positions c.loop-moment.x c.loop-moment.held ms i m
          (boxes_of c.loop-moment.boxes.items) _ c.loop-moment-test.true c.moment-item.is same c.loop-moment.invariant)
    ]
