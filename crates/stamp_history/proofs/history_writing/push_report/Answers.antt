use Rattle.std.proofs.Common.{◌<◌, ◌∙◌, ◌++◌, List, ℕ, length, ap, true, codes, arith}
use Rattle.std.proofs.lemmas.Grind.{common_steps}
use Rattle.serde_json.specs.Written.{compact_text, members_text}
use Rattle.stamp_history.specs.HistoryText.{report_data}
use Rattle.stamp_history.proofs.Appending.{onto, before}
use Rattle.stamp_history.proofs.ReportKey.{report_text}
use Rattle.stamp_history.proofs.history_writing.push_report.Goals as goal

pub returns-clause-text : goal.returns-clause-text
returns-clause-text c = λ rest.
    let report = c.args.report.now in
    let some : 0 < length report = grind (arith, common_steps) in
    let key = codes ",\"report\":" in
    let pairs = compact_text (report_data report) in
    before _ (key ++ pairs) (members_text true rest)
    (onto _ key pairs c.in_ok-push_text.ensures c.in_ok-push_pairs.ensures.text)
    ∙ ap (λ (text : List ℕ). c.args.text.now.items ++ text) (report_text report rest some)
