use Rattle.std.proofs.Common.{◌≡◌, ◌∙◌, ◌++◌, true, codes, ap}
use Rattle.serde_json.specs.Data.{member, no_members}
use Rattle.serde_json.specs.Written.{compact_text, members_text}
use Rattle.serde_json.proofs.OnLiterals.{serde_json_on_literals}
use Rattle.stamp_core.specs.Limits.{Bounds, bounds}
use Rattle.stamp_history.specs.ReplayText.{number_data}
use Rattle.stamp_history.specs.HistoryText.{after_entries, with_report}
use Rattle.stamp_history.proofs.Appending.{onto, before}
use Rattle.stamp_history.proofs.HistoryParts.{same_limits}
use Rattle.stamp_history.proofs.history_writing.push_after_entries.Goals as goal

pub returns-clause-text : goal.returns-clause-text
unfolding serde_json_on_literals
returns-clause-text c =
    let l : Bounds = bounds c.layout.result c.readers.result c.versions.result in
    let same : l ≡ c.args.limits.now =
    same_limits c.args.limits.now _ _ _ c.layout.ensures.layout c.readers.ensures.readers
    c.versions.ensures.versions in
    let report = c.args.report.now in
    let width = member (codes "width") (number_data c.args.width) no_members in
    let versions = member (codes "versions") (number_data l.versions) width in
    let reported = with_report report versions in
    let readers = member (codes "readers") (number_data l.readers) reported in
    let readers_text = codes ",\"readers\":" ++ compact_text (number_data l.readers) in
    let versions_text = codes ",\"versions\":" ++ compact_text (number_data l.versions) in
    let width_text = codes ",\"width\":" ++ compact_text (number_data c.args.width) in
    onto _ versions_text (members_text true width) c.in_ok-push_numbered-2.ensures.text
    (onto _ width_text (codes "}") c.in_ok-push_numbered-3.ensures.text c.in_ok-push_text.ensures)
    ∙ c.in_ok-push_report.ensures.text versions
    ∙ before _ readers_text (members_text true reported) c.in_ok-push_numbered.ensures.text
    ∙ c.in_ok-push_format.ensures readers
    ∙ ap (λ (limits : Bounds). c.args.text.now.items ++
    members_text true (after_entries limits c.args.width report)) same
