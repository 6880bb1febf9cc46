use Rattle.std.proofs.Common.{◌++◌, codes}
use Rattle.serde_json.specs.Written.{compact_text}
use Rattle.serde_json.proofs.OnLiterals.{serde_json_on_literals}
use Rattle.stamp_history.specs.ReplayText.{number_data, reply_data}
use Rattle.stamp_history.specs.HistoryText.{call_data}
use Rattle.stamp_history.proofs.Appending.{onto}
use Rattle.stamp_history.proofs.history_writing.push_entry.Goals as goal

pub returns-clause-text : goal.returns-clause-text
unfolding serde_json_on_literals
returns-clause-text c =
    let e = c.args.entry.now in
    let end = codes "}" in
    let thread = codes ",\"thread\":" ++ compact_text (number_data e.thread) in
    let from_reply = compact_text (reply_data e.reply) ++ (thread ++ end) in
    let from_key = codes ",\"reply\":" ++ from_reply in
    let from_point = (codes ",\"point\":" ++ compact_text (number_data e.point)) ++ from_key in
    let from_last = (codes ",\"last\":" ++ compact_text (number_data e.last)) ++ from_point in
    let from_first = (codes ",\"first\":" ++ compact_text (number_data e.first)) ++ from_last in
    let from_call = compact_text (call_data e.call) ++ from_first in
    onto _ (codes "{\"call\":") from_call c.in_ok-push_text.ensures
    (onto _ (compact_text (call_data e.call)) from_first c.in_ok-push_call.ensures.text
    (onto _ (codes ",\"first\":" ++ compact_text (number_data e.first)) from_last c.in_ok-push_numbered.ensures.text
    (onto _ (codes ",\"last\":" ++ compact_text (number_data e.last)) from_point c.in_ok-push_numbered-2.ensures.text
    (onto _ (codes ",\"point\":" ++ compact_text (number_data e.point)) from_key c.in_ok-push_numbered-3.ensures.text
    (onto _ (codes ",\"reply\":") from_reply c.in_ok-push_text-2.ensures
    (onto _ (compact_text (reply_data e.reply)) (thread ++ end) c.in_ok-push_reply.ensures.text
    (onto _ thread end c.in_ok-push_numbered-4.ensures.text c.in_ok-push_text-3.ensures)))))))
