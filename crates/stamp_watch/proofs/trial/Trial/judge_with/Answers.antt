use Rattle.std.proofs.Common.{List, ◌≡◌, ◌++◌, ◌∷◌, [], ◌∙◌, ap, subst, sym}
use Rattle.std.specs.Prelude.{drop, take}
use Rattle.std.proofs.lemmas.List.{take_rest}
use Rattle.std.proofs.lemmas.Result.{IfOk-weaker}
use Rattle.stamp_core.specs.Limits.{Bounds}
use Rattle.stamp_runs.specs.declared.event.Event.{Event}
use Rattle.stamp_watch.specs.Judging.{IsJudging}
use Rattle.stamp_watch.specs.inner.Judging.{IsOutcome}
use Rattle.stamp_watch.specs.inner.Trial.{IsTrial, with_return}
use Rattle.stamp_watch.proofs.Judging.{judging_copied}
use Rattle.stamp_watch.proofs.Trials.{judging_tried, rest_is}
use Rattle.stamp_watch.proofs.trial.Trial.judge_with.Goals as goal
use Rattle.stamp_watch.proofs.trial.Trial.judge_with.Goals.{After-as_slice-2}

same_events : (c : After-as_slice-2) (limits : Bounds) → IsTrial limits c.args.self.now →
    c.as_slice-2.result.now ≡ drop c.args.self.now.first (with_return c.args.self.now c.args.reply)
same_events c limits is = c.as_slice-2.ensures.value ∙ c.in_ok-push.ensures.items ∙
    ap (λ (xs : List Event). xs ++ c.returns.result ∷ []) (c.in_ok-events.ensures.items ∙
    take_rest c.as_slice.result.now c.args.self.now.first ∙
    ap (drop c.args.self.now.first) c.as_slice.ensures.value) ∙
    ap (λ (e : Event). drop c.args.self.now.first c.args.self.now.events.items ++ e ∷ []) c.returns.ensures ∙
    sym (rest_is limits c.args.self.now is c.args.reply)

judging_here : (c : After-as_slice-2) (limits : Bounds) → IsTrial limits c.args.self.now → IsJudging limits
    c.args.self.now.first (take c.args.self.now.first c.args.self.now.events.items) c.as_slice-2.result.now
    c.in_ok-start.start
judging_here c limits is = subst (λ (xs : List Event). IsJudging limits c.args.self.now.first
    (take c.args.self.now.first c.args.self.now.events.items) xs c.in_ok-start.start) (sym (same_events c limits is))
    (judging_copied limits c.args.self.now.first (take c.args.self.now.first c.args.self.now.events.items)
    (drop c.args.self.now.first (with_return c.args.self.now c.args.reply)) c.args.self.now.base
    c.in_ok-start.start c.in_ok-start.ensures (judging_tried limits c.args.self.now is c.args.reply))

pub judge_rest-requires-clause-judging : goal.judge_rest-requires-clause-judging
judge_rest-requires-clause-judging c = record {
  limits = c.requires.0;
  past = take c.args.self.now.first c.args.self.now.events.items;
  judging = judging_here c c.requires.0 c.requires.1;
}

pub returns : goal.returns
returns c = IfOk-weaker c.judge_rest.result _ _ (λ outcome says limits is.
    let at = (goal.at.returns c).After-as_slice-2 in
    subst (λ (xs : List Event). IsOutcome limits c.args.self.now.first
    (take c.args.self.now.first c.args.self.now.events.items) xs c.args.self.now.most outcome)
    (same_events at limits is) (says limits (take c.args.self.now.first c.args.self.now.events.items)
    (judging_here at limits is))) c.judge_rest.ensures.outcome
