use Rattle.std.proofs.Common.{[], ◌∷◌, ◌++◌, None, Option, Some, ap, inl, inr, refl, subst, sym, ◌∙◌}
use Rattle.std.specs.Prelude.{⊤, MatchOption}
use Rattle.stamp_watch.specs.declared.late_verdict.LateVerdict.{LateVerdict}
use Rattle.stamp_watch.specs.LateJudge.{EndsInRunLate, KeepsEndLate}
use Rattle.stamped_watch.proofs.Ended.{call_kept, call_there}
use Rattle.stamped_watch.proofs.Ending.{judge_whole}
use Rattle.stamped_watch.proofs.Found.{so_found}
use Rattle.stamped_watch.proofs.Misplacing.{found_then, late_of_form, misplaced_at}
use Rattle.stamped_watch.proofs.run_judge.RunJudge.given.Goals as goal

pub finding_of-requires : goal.finding_of-requires
finding_of-requires c =
    let some = c.requires.some in
    let holds = found_then some.limits some.most some.ahead some.run c.args.event.now c.args.self.now.judge
    c.in_ok-found.found c.in-Some.verdict c.in_ok-found.ensures.found c.in-Some.is some.judge_of in
    late_of_form some.limits _ some.most some.ahead c.in-Some.verdict holds c.in-None.ensures

pub returns-in-Some-broken_at-clause-found : goal.returns-in-Some-broken_at-clause-found
returns-in-Some-broken_at-clause-found c limits most ahead run is =
    let whole = judge_whole limits most ahead run c.args.self.now.judge is c.requires.none in
    let same = c.in-Some.is ∙ ap Some c.in-Some-broken_at.ensures in
    let holds = found_then limits most ahead run c.args.event.now c.args.self.now.judge c.in_ok-found.found _
    c.in_ok-found.ensures.found same is in
    misplaced_at limits run most None c.args.event.now c.in-Some-broken_at.number whole holds
    c.why_misplaced.result c.requires.small c.why_misplaced.ensures

pub returns-in_default-clause-found : goal.returns-in_default-clause-found
returns-in_default-clause-found c limits most ahead run is = record {
  judge_of = c.in_ok-found.ensures.given limits most ahead run is;
  none = c.in_ok-found.ensures.told ∙ c.in_default.is;
}

pub returns-in-None-clause-found : goal.returns-in-None-clause-found
returns-in-None-clause-found c limits most ahead run is =
    let holds = found_then limits most ahead run c.args.event.now c.args.self.now.judge c.in_ok-found.found
    c.in-Some.verdict c.in_ok-found.ensures.found c.in-Some.is is in
    so_found limits most ahead run c.args.event.now c.finding_of.result c.in-Some.verdict c.finding_of.ensures holds

pub returns-then-is_full-clause-kept : goal.returns-then-is_full-clause-kept
returns-then-is_full-clause-kept c limits most ahead run is =
    inl (record { keeps = is.keeps; most_is = refl; window = refl })

pub returns-in_default-clause-kept : goal.returns-in_default-clause-kept
returns-in_default-clause-kept c limits most ahead run is =
    let then = c.in_ok-found.ensures.given limits most ahead run is in
    inr (record {
      keeps = then.keeps;
      most_is = then.small.judge_of.most_is ∙ sym is.small.judge_of.most_is;
      window = then.window ∙ sym is.window;
    })

pub returns-in-Some-broken_at-clause-kept : goal.returns-in-Some-broken_at-clause-kept
returns-in-Some-broken_at-clause-kept c limits most ahead run is =
    let then = c.in_ok-found.ensures.given limits most ahead run is in
    inr (record {
      keeps = then.keeps;
      most_is = then.small.judge_of.most_is ∙ sym is.small.judge_of.most_is;
      window = then.window ∙ sym is.window;
    })

pub returns-in-None-clause-kept : goal.returns-in-None-clause-kept
returns-in-None-clause-kept c limits most ahead run is =
    let then = c.in_ok-found.ensures.given limits most ahead run is in
    inr (record {
      keeps = then.keeps;
      most_is = then.small.judge_of.most_is ∙ sym is.small.judge_of.most_is;
      window = then.window ∙ sym is.window;
    })

pub returns-in-None-clause-tells : goal.returns-in-None-clause-tells
returns-in-None-clause-tells c = call_kept c.finding_of.result c.in-Some.verdict c.push.new.self c.finding_of.ensures
    (subst (λ (o : Option LateVerdict). MatchOption o ⊤ (KeepsEndLate c.push.new.self.delay))
    (c.in_ok-found.ensures.told ∙ c.in-Some.is) c.in_ok-found.ensures.known.judge_of.tells)

pub returns-in-None-clause-there : goal.returns-in-None-clause-there
returns-in-None-clause-there c limits most ahead run is = call_there c.finding_of.result c.in-Some.verdict
    (run ++ c.args.event.now ∷ []) c.push.new.self c.finding_of.ensures
    (subst (λ (o : Option LateVerdict).
    MatchOption o ⊤ (EndsInRunLate (run ++ c.args.event.now ∷ []) c.push.new.self.delay))
    (c.in_ok-found.ensures.told ∙ c.in-Some.is) (c.in_ok-found.ensures.given limits most ahead run is).there)
