use Rattle.std.proofs.Common.{List, ◌≡◌, ◌<◌, ◌++◌, ◌∷◌, [], ◌∙◌, ap, arith, length, rules, subst, sym}
use Rattle.std.specs.Prelude.{take}
use Rattle.std.proofs.lemmas.List.{length-take-le, length_push}
use Rattle.std.proofs.lemmas.Option.{slice_get_within}
use Rattle.std.proofs.lemmas.Result.{IfOk-weaker}
use Rattle.stamp_core.specs.Limits.{Bounds}
use Rattle.stamp_runs.specs.declared.event.Event.{Event}
use Rattle.stamp_runs.specs.declared.event.Event.TheVariants.{Returns}
use Rattle.stamp_watch.specs.Judging.{IsJudging}
use Rattle.stamp_watch.specs.Possible.{IsKept}
use Rattle.stamp_watch.specs.inner.Judging.{IsOutcome}
use Rattle.stamp_watch.proofs.Judging.{judging_copied}
use Rattle.stamp_watch.proofs.TryingReplies.{judging_with}
use Rattle.stamp_watch.proofs.course.Course.judge_with.Goals as goal
use Rattle.stamp_watch.proofs.course.Course.judge_with.Goals.{After-as_slice-2}

same_trial : (c : After-as_slice-2) →
    c.as_slice-2.result.now ≡ take c.args.at c.args.self.now.events.items ++ c.args.event.now ∷ []
same_trial c = c.as_slice-2.ensures.value ∙ c.in_ok-extend_from_slice.ensures.items ∙
    ap (λ (xs : List Event). c.in_ok-trial.trial.items ++ xs) c.from_ref.ensures.value ∙
    ap (λ (xs : List Event). xs ++ c.args.event.now ∷ []) (search rules)

judging_here : (c : After-as_slice-2) (limits : Bounds) (run : List Event) (kept : IsKept limits run c.args.self.now) →
    IsJudging limits c.args.self.now.first kept.past c.as_slice-2.result.now c.in_ok-start.start
judging_here c limits run kept = subst (λ (xs : List Event). IsJudging limits c.args.self.now.first kept.past xs
    c.in_ok-start.start) (sym (same_trial c)) (judging_copied limits c.args.self.now.first kept.past
    (take c.args.at c.args.self.now.events.items ++ c.args.event.now ∷ []) c.args.self.now.base c.in_ok-start.start
    c.in_ok-start.ensures (judging_with limits run c.args.self.now kept c.args.at c.args.event.now
    c.requires.is_return c.requires.seen))

pub judge_rest-requires-clause-judging : goal.judge_rest-requires-clause-judging
judge_rest-requires-clause-judging c =
    let some = c.requires.kept in record {
      limits = some.limits;
      past = some.keeps.past;
      judging = judging_here c some.limits some.run some.keeps;
    }

pub judge_rest-requires-clause-room : goal.judge_rest-requires-clause-room
judge_rest-requires-clause-room c =
    let items : List Event = c.args.self.now.events.items in
    let within : c.args.at < length items = slice_get_within items c.args.at
    (Returns c.requires.is_return.lane c.requires.is_return.own) c.requires.is_return.there in
    omega (
      arith,
      c.requires.kept.keeps.room,
      within,
      ap (λ (xs : List Event). length xs) (same_trial c),
      length_push (take c.args.at items) c.args.event.now,
      length-take-le c.args.at items (omega (arith, within)),
    )

pub returns : goal.returns
returns c = IfOk-weaker c.judge_rest.result _ _ (λ outcome says limits run kept.
    let at = (goal.at.returns c).After-as_slice-2 in
    subst (λ (xs : List Event). IsOutcome limits c.args.self.now.first kept.past xs c.args.most outcome)
    (same_trial at) (says limits kept.past (judging_here at limits run kept))) c.judge_rest.ensures.outcome
