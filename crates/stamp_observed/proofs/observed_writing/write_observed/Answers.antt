use Rattle.std.proofs.Common.{◌≡◌, ◌∙◌, ◌++◌, List, ℕ, ap}
use Rattle.serde_json.specs.Written.{compact_text}
use Rattle.stamp_observed.specs.ObservedReading.{observed_of}
use Rattle.stamp_observed.specs.ObservedText.{observed_data, observed_text}
use Rattle.stamp_observed.proofs.ReadsAgain.{reads_again}
use Rattle.stamp_observed.proofs.observed_writing.write_observed.Goals as goal

pub returns-clause-text : goal.returns-clause-text
unfolding observed_text
returns-clause-text c = c.in_ok-push_observed.ensures.text ∙
    ap (λ (before : List ℕ). before ++ compact_text (observed_data c.args.observed.now)) c.in_ok-text.ensures.items

pub returns-clause-again : goal.returns-clause-again
returns-clause-again c = λ suited.
    let written : c.push_observed.new.text.items ≡ observed_text c.args.observed.now = returns-clause-text c in
    ap observed_of written ∙ reads_again c.args.observed.now c.in_ok-push_observed.ensures.range
    c.entries.ensures.small suited c.in_ok-push_observed.ensures.program_value
