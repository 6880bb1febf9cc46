use Rattle.std.proofs.Common.{inl, inr, refl, sym, ◌∙◌, subst}
use Rattle.std.proofs.lemmas.Bool.{false≢true}
use Rattle.stamp_runs.specs.BothRun.{AreExplained}
use Rattle.stamp_watch.specs.declared.late_verdict.LateVerdict.{LateVerdict}
use Rattle.stamp_watch.specs.Late.{IsLateVerdict}
use Rattle.stamp_watch.specs.Verdict.{AreOfLanes}
use Rattle.stamped_watch.proofs.Ended.{call_kept, call_there}
use Rattle.stamped_watch.proofs.Ending.{judge_whole}
use Rattle.stamped_watch.proofs.Misplacing.{late_form_here}
use Rattle.stamped_watch.proofs.run_judge.RunJudge.found_unless.Goals as goal

pub finding_of-requires : goal.finding_of-requires
finding_of-requires c =
    let some = c.requires.some in
    let whole = judge_whole some.limits some.most some.ahead some.run c.args.self.now.judge some.judge_of
    c.requires.none in
    late_form_here some.limits some.run some.most some.ahead _ whole
    (c.in_ok-verdict.ensures.verdict some.limits some.most some.ahead some.run some.judge_of)
    (λ same. false≢true (sym c.if-is_explained.false ∙ c.is_explained.ensures.1 same))

pub returns-then-is_explained-clause-found : goal.returns-then-is_explained-clause-found
returns-then-is_explained-clause-found c limits most ahead run is =
    let all : AreOfLanes run × AreExplained limits run =
    subst (λ (v : LateVerdict). IsLateVerdict limits run most ahead v)
    (c.is_explained.ensures.0 c.if-is_explained.true)
    (c.in_ok-verdict.ensures.verdict limits most ahead run is) in
    inl (record { whole = all.0; explained = all.1 }, refl)

pub returns-clause-found : goal.returns-clause-found
returns-clause-found c limits most ahead run is = inr (record {
  verdict = c.in_ok-verdict.verdict;
  is = c.finding_of.ensures;
  holds = c.in_ok-verdict.ensures.verdict limits most ahead run is;
})

pub returns-then-is_explained-clause-kept : goal.returns-then-is_explained-clause-kept
returns-then-is_explained-clause-kept c limits most ahead run is =
    record {
      keeps = c.in_ok-verdict.ensures.keeps limits most ahead run is;
      most_is = c.in_ok-verdict.ensures.most;
      window = c.in_ok-verdict.ensures.window;
    }

pub returns-clause-kept : goal.returns-clause-kept
returns-clause-kept c limits most ahead run is =
    record {
      keeps = c.in_ok-verdict.ensures.keeps limits most ahead run is;
      most_is = c.in_ok-verdict.ensures.most;
      window = c.in_ok-verdict.ensures.window;
    }

pub returns-then-is_explained-clause-tells : goal.returns-then-is_explained-clause-tells
returns-then-is_explained-clause-tells c kept = kept

pub returns-clause-tells : goal.returns-clause-tells
returns-clause-tells c kept = call_kept c.finding_of.result c.in_ok-verdict.verdict c.finish.new.self
    c.finding_of.ensures c.in_ok-verdict.ensures.tells

pub returns-then-is_explained-clause-there : goal.returns-then-is_explained-clause-there
returns-then-is_explained-clause-there c limits most ahead run is there = there

pub returns-clause-there : goal.returns-clause-there
returns-clause-there c limits most ahead run is there = call_there c.finding_of.result c.in_ok-verdict.verdict run
    c.finish.new.self c.finding_of.ensures (c.in_ok-verdict.ensures.there limits most ahead run is)
