use Rattle.std.proofs.Common.{◌∙◌, ◌++◌, codes, true}
use Rattle.serde_json.specs.Data.{member, no_members}
use Rattle.serde_json.specs.Written.{compact_text, members_text}
use Rattle.serde_json.proofs.OnLiterals.{serde_json_on_literals}
use Rattle.stamp_history.specs.HistoryText.{call_data}
use Rattle.stamp_history.specs.ReplayText.{number_data}
use Rattle.stamp_history.proofs.Appending.{onto, before}
use Rattle.stamp_observed.specs.ObservedText.{with_return}
use Rattle.stamp_observed.proofs.observed_writing.push_observation.Goals as goal

pub returns-clause-text : goal.returns-clause-text
unfolding serde_json_on_literals
returns-clause-text c =
    let e = c.args.entry.now in
    let call = compact_text (call_data e.call) in
    let first = codes ",\"first\":" ++ compact_text (number_data e.first) in
    let thread = member (codes "thread") (number_data e.thread) no_members in
    let thread_text = codes ",\"thread\":" ++ compact_text (number_data e.thread) in
    let returned = members_text true (with_return e.returned thread) in
    onto _ (codes "{\"call\":") (call ++ (first ++ returned)) c.in_ok-push_text.ensures
    (onto _ call (first ++ returned) c.in_ok-push_call.ensures.text
    (onto _ thread_text (codes "}") c.in_ok-push_numbered-2.ensures.text c.in_ok-push_text-2.ensures
    ∙ c.in_ok-push_return.ensures.text thread
    ∙ before _ first returned c.in_ok-push_numbered.ensures.text))
