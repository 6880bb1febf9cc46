use Rattle.std.proofs.Common.{◌∙◌, ◌++◌, ℕ, List, ap}
use Rattle.serde_json.specs.Written.{compact_text}
use Rattle.stamp_core.specs.declared.reply.Reply.{Reply}
use Rattle.stamp_history.specs.ReplayText.{replayed_data}
use Rattle.stamp_history.proofs.ReplayedParts.{parts_written}
use Rattle.stamp_history.proofs.replay_writing.push_replayed.Goals as goal

pub returns : goal.returns
returns c =
    let old = c.args.text.now.items in
    let replies = c.deref.result.now in
    parts_written old _ _ _ replies c.bits.result c.in_ok-push_text.ensures c.in_ok-push_replies.ensures
    c.in_ok-push_word.ensures
    ∙ ap (λ (rs : List Reply). old ++ compact_text (replayed_data rs c.bits.result)) c.deref.ensures.value
    ∙ ap (λ (n : ℕ). old ++ compact_text (replayed_data c.args.done.now.replies.items n)) c.bits.ensures.bits
