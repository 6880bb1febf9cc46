use Rattle.std.proofs.Common.{◌≡◌, ◌∙◌, ◌++◌, ℕ, List, map, ap, subst}
use Rattle.serde_json.specs.Written.{compact_text}
use Rattle.stamp_core.specs.Replayed.{IsReplayed}
use Rattle.stamp_core.specs.LockCall.{call_as}
use Rattle.stamp_core.specs.declared.lock_call.LockCall.{LockCall}
use Rattle.stamp_history.specs.ReplayText.{replayed_data}
use Rattle.stamp_history.proofs.ReplayAnswers.{answered}
use Rattle.stamp_history.proofs.ReplayedParts.{parts_written}
use Rattle.stamp_history.proofs.replay_answer.replay_text.Goals as goal

pub returns-clause-answers : goal.returns-clause-answers
returns-clause-answers c =
    let kept : c.deref.result.now ≡ c.in_ok-limits.calls.items = c.deref.ensures.value in
    let done = c.in_ok-word.ensures in
    let replayed = subst (λ (xs : List LockCall). IsReplayed c.in_ok-limits.limits
    (map call_as xs) done.0 c.in_ok-word.word) kept done.2 in
    let written = parts_written _ _ _ _ done.0 c.bits.result c.in_ok-push_text.ensures done.1
    c.in_ok-push_word.ensures in
    answered c.args.bytes.now _ c.in_ok-limits.ensures.replay done.0 c.in_ok-word.word replayed c.bits.result
    c.bits.ensures.bits (written ∙
    ap (λ (old : List ℕ). old ++ compact_text (replayed_data done.0 c.bits.result)) c.new-text.ensures.items)
