use Rattle.std.proofs.Common.{◌≡◌, ◌++◌}
use Rattle.serde_json.specs.Written.{compact_text}
use Rattle.stamp_history.specs.ReplayText.{reply_data, replies_data}
use Rattle.stamp_history.proofs.ItemsText.{items_left}
use Rattle.stamped_picture.proofs.page_data.push_replies.Given as goal

abbrev pub invariant-loop-index : goal.invariant-loop-index
invariant-loop-index l = l.text.items ++ items_left reply_data l.index l.replies ≡ l.fn.text.items ++
    compact_text (replies_data l.replies)
