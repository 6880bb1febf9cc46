use Rattle.std.proofs.Common.{◌∙◌, ◌++◌, codes, true}
use Rattle.serde_json.specs.Written.{compact_text, members_text}
use Rattle.serde_json.proofs.OnLiterals.{serde_json_on_literals}
use Rattle.stamp_history.specs.ReplayText.{number_data, reply_data}
use Rattle.stamp_history.proofs.Appending.{onto, before}
use Rattle.stamp_observed.proofs.observed_writing.push_return.Goals as goal

pub returns-in_ok-push_reply-clause-text : goal.returns-in_ok-push_reply-clause-text
unfolding serde_json_on_literals
returns-in_ok-push_reply-clause-text c = λ rest.
    let r = c.in-Some.returned in
    let last = codes ",\"last\":" ++ compact_text (number_data r.last) in
    let key = codes ",\"reply\":" in
    let reply = compact_text (reply_data r.reply) in
    rw c.in-Some.is
    (before _ (key ++ reply) (members_text true rest)
    (onto _ key reply c.in_ok-push_text.ensures c.in_ok-push_reply.ensures.text)
    ∙ before _ last ((key ++ reply) ++ members_text true rest) c.in_ok-push_numbered.ensures.text)
