-- The key of a report.
use Rattle.std.proofs.Common.{◌≡◌, ◌<◌, ◌++◌, ℕ, List, [], ◌∷◌, length, refl, true, codes, arith}
use Rattle.serde_json.specs.Data.{Members}
use Rattle.serde_json.specs.Written.{compact_text, members_text}
use Rattle.serde_json.proofs.OnLiterals.{serde_json_on_literals}
use Rattle.stamp_history.specs.HistoryText.{report_data, with_report}

-- where there is a report, its key stands before the rest
pub report_text : (report : List (ℕ × ℕ)) (rest : Members) → 0 < length report →
    (codes ",\"report\":" ++ compact_text (report_data report)) ++ members_text true rest ≡
    members_text true (with_report report rest)
unfolding serde_json_on_literals
report_text [] rest some = absurd (omega arith)
report_text (pair ∷ pairs) rest some = refl
