use Rattle.std.proofs.Common.{◌≡◌, ◌∙◌, ◌++◌, List, ℕ, ap}
use Rattle.serde_json.specs.Written.{compact_text}
use Rattle.stamp_history.specs.History.{recorded_of}
use Rattle.stamp_history.specs.HistoryText.{history_data, history_text}
use Rattle.stamp_history.proofs.HistoryReadsAgain.{reads_again}
use Rattle.stamp_history.proofs.history_writing.write_history.Goals as goal

pub returns-clause-text : goal.returns-clause-text
unfolding history_text
returns-clause-text c = c.in_ok-push_history.ensures.text ∙
    ap (λ (before : List ℕ). before ++ compact_text (history_data c.args.history.now)) c.in_ok-text.ensures.items

pub returns-clause-again : goal.returns-clause-again
returns-clause-again c =
    let written : c.push_history.new.text.items ≡ history_text c.args.history.now = returns-clause-text c in
    ap recorded_of written ∙ reads_again c.args.history.now c.in_ok-push_history.ensures.range
    c.entries.ensures.known c.entries.ensures.replies c.in_ok-push_history.ensures.numbers
