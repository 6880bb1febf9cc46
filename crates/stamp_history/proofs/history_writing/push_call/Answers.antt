use Rattle.std.proofs.Common.{◌∙◌, ◌++◌, List, ℕ, ap, codes, true}
use Rattle.serde_json.specs.Written.{items_text}
use Rattle.stamp_history.specs.HistoryText.{call_name, arguments}
use Rattle.stamp_history.proofs.Appending.{onto}
use Rattle.stamp_history.proofs.CallText.{call_text}
use Rattle.stamp_history.proofs.history_writing.push_call.Goals as goal

pub returns-clause-text : goal.returns-clause-text
returns-clause-text c =
    let call = c.args.call.now in
    let name = c.in_ok-push_text-2.ensures ∙ ap (λ (name : List ℕ). c.push_text.new.text.items ++ name)
    c.call_name.ensures in
    let taken = items_text true (arguments call) in
    onto _ (codes "[\"") (call_name call ++ (codes "\"" ++ taken)) c.in_ok-push_text.ensures
    (onto _ (call_name call) (codes "\"" ++ taken) name
    (onto _ (codes "\"") taken c.in_ok-push_text-3.ensures c.in_ok-push_arguments.ensures.text))
    ∙ ap (λ (text : List ℕ). c.args.text.now.items ++ text) (call_text call)
