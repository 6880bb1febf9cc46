use Rattle.std.proofs.Common.{◌∙◌, ◌++◌, codes, true}
use Rattle.serde_json.specs.Written.{compact_text, members_text}
use Rattle.serde_json.proofs.OnLiterals.{serde_json_on_literals}
use Rattle.stamp_history.specs.ReplayText.{number_data}
use Rattle.stamp_history.proofs.Appending.{before}
use Rattle.stamp_history.proofs.history_writing.push_format.Goals as goal

pub returns-in_ok-push_numbered-in-One : goal.returns-in_ok-push_numbered-in-One
unfolding serde_json_on_literals
returns-in_ok-push_numbered-in-One c = λ rest.
    let format = codes ",\"format\":" ++ compact_text (number_data 1) in
    rw c.in-One.is (before _ format (members_text true rest) c.in_ok-push_numbered-in-One.ensures.text)

pub returns-in_ok-push_numbered-in-Two-2 : goal.returns-in_ok-push_numbered-in-Two-2
unfolding serde_json_on_literals
returns-in_ok-push_numbered-in-Two-2 c = λ rest.
    let format = codes ",\"format\":" ++ compact_text (number_data 2) in
    let layout = codes ",\"layout\":" ++ compact_text (number_data 2) in
    rw c.in-Two.is (before _ layout (members_text true rest) c.in_ok-push_numbered-in-Two-2.ensures.text ∙
    before _ format (layout ++ members_text true rest) c.in_ok-push_numbered-in-Two.ensures.text)
