use Rattle.stamp_history.specs.ReplayText.{reply_data}
use Rattle.stamp_history.proofs.ItemByItem.{next_left}
use Rattle.stamp_history.proofs.ItemsText.{item_written}
use Rattle.stamped_picture.proofs.page_data.push_replies.Goals as goal

pub loop-index-preserved : goal.loop-index-preserved
loop-index-preserved c =
    let xs = c.args.replies.now in
    let i = c.loop-index.index in
    let x = c.index-replies-index.result in
    item_written reply_data xs i x _ _ _ _ (next_left xs i x x c.loop-index-test.true c.index-replies-index.is)
    c.in_ok-push_comma.ensures c.in_ok-push_reply.ensures.text c.loop-index.invariant
