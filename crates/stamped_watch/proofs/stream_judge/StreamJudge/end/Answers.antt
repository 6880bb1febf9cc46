use Rattle.std.proofs.Common.{Option, Some, arith, rules, subst, sym}
use Rattle.std.specs.Prelude.{⊤, MatchOption}
use Rattle.std.proofs.lemmas.Bool.Decides.{nat_tests}
use Rattle.std.proofs.lemmas.List.{nil_from_length}
use Rattle.std.proofs.lemmas.Result.{IfOk-weaker}
use Rattle.stamped_watch.specs.declared.finding.Finding.{Finding}
use Rattle.stamped_watch.specs.declared.finding.Finding.TheVariants as found
use Rattle.stamped_watch.specs.StreamJudge.{EndsInStream, KeepsCall}
use Rattle.stamped_watch.specs.declared.run_judge.RunJudge.{RunJudge}
use Rattle.stamped_watch.specs.Possible.{KeepsOf}
use Rattle.stamped_watch.proofs.Ending.{cut_at_end, found_at_end, way_of_judge, whole_at_end}
use Rattle.stamped_watch.proofs.Taking.{call_of_some, keeps_ended, keeps_fed, there_ended, there_fed}
use Rattle.stamped_watch.proofs.stream_judge.StreamJudge.end.Goals as goal

pub returns-in-Some-clause-found : goal.returns-in-Some-clause-found
returns-in-Some-clause-found c most ahead fed is =
    found_at_end most ahead fed c.args.self.now is c.in-Some.finding c.in-Some.is

pub returns-in-Some-clause-kept : goal.returns-in-Some-clause-kept
returns-in-Some-clause-kept c most ahead fed is = keeps_fed most ahead fed c.args.self.now is

pub returns-then-not-is_empty-clause-found : goal.returns-then-not-is_empty-clause-found
returns-then-not-is_empty-clause-found c = IfOk-weaker c.found_unless.result _ _ (λ finding so most ahead fed is.
    let way = way_of_judge most ahead fed c.args.self.now is c.in_default.is c.in-Some-judge.inner c.in-Some-judge.is
    in
    cut_at_end most ahead fed c.args.self.now is c.in_default.is c.in-Some-judge.inner c.in-Some-judge.is way
    c.count-number.result finding (λ empty. search rules)
    (c.count-number.ensures way.header.limits most ahead way.run way.judge_of)
    (so way.header.limits most ahead way.run way.judge_of)) c.found_unless.ensures.found

pub returns-then-not-is_empty-clause-kept : goal.returns-then-not-is_empty-clause-kept
returns-then-not-is_empty-clause-kept c = IfOk-weaker c.found_unless.result _ _ (λ finding keeps most ahead fed is.
    subst (λ (i : RunJudge). KeepsOf most ahead fed i) (sym c.found_unless.ensures.same)
    (keeps_ended most ahead fed c.args.self.now is c.in_default.is c.in-Some-judge.inner c.found_unless.new.self.judge
    c.in-Some-judge.is keeps)) c.found_unless.ensures.kept

pub returns-clause-found : goal.returns-clause-found
returns-clause-found c = IfOk-weaker c.found_unless-2.result _ _ (λ finding so most ahead fed is.
    let way = way_of_judge most ahead fed c.args.self.now is c.in_default.is c.in-Some-judge.inner c.in-Some-judge.is
    in
    whole_at_end most ahead fed c.args.self.now is c.in_default.is c.in-Some-judge.inner c.in-Some-judge.is way
    c.saturating_sub-calls.result finding (nil_from_length _ (grind (arith, nat_tests))) (cc)
    (so way.header.limits most ahead way.run way.judge_of)) c.found_unless-2.ensures.found

pub returns-clause-kept : goal.returns-clause-kept
returns-clause-kept c = IfOk-weaker c.found_unless-2.result _ _ (λ finding keeps most ahead fed is.
    subst (λ (i : RunJudge). KeepsOf most ahead fed i) (sym c.found_unless-2.ensures.same)
    (keeps_ended most ahead fed c.args.self.now is c.in_default.is c.in-Some-judge.inner c.found_unless-2.new.self.judge
    c.in-Some-judge.is keeps)) c.found_unless-2.ensures.kept

pub returns-in-Some-clause-tells : goal.returns-in-Some-clause-tells
returns-in-Some-clause-tells c = subst (λ (o : Option Finding). MatchOption o ⊤ (KeepsCall c.args.self.now.judge))
    c.in-Some.is c.requires.is.has_taken.tells

pub returns-then-not-is_empty-clause-tells : goal.returns-then-not-is_empty-clause-tells
returns-then-not-is_empty-clause-tells c =
    IfOk-weaker c.found_unless.result _ _ (λ finding keeps.
    call_of_some c.found_unless.new.self finding (keeps tt)) c.found_unless.ensures.tells

pub returns-clause-tells : goal.returns-clause-tells
returns-clause-tells c =
    IfOk-weaker c.found_unless-2.result _ _ (λ finding keeps.
    call_of_some c.found_unless-2.new.self finding (keeps tt)) c.found_unless-2.ensures.tells

pub returns-in-Some-clause-there : goal.returns-in-Some-clause-there
returns-in-Some-clause-there c most ahead fed is =
    there_fed most ahead fed c.args.self.now is c.in-Some.finding c.in-Some.is

pub returns-in_default-judge-clause-there : goal.returns-in_default-judge-clause-there
returns-in_default-judge-clause-there c most ahead fed is =
    subst (λ (o : Option RunJudge). EndsInStream fed o found.NoHeader) (sym c.in_default-judge.is) tt

pub returns-then-not-is_empty-clause-there : goal.returns-then-not-is_empty-clause-there
returns-then-not-is_empty-clause-there c = IfOk-weaker c.found_unless.result _ _ (λ finding there most ahead fed is.
    subst (λ (i : RunJudge). EndsInStream fed (Some i) finding) (sym c.found_unless.ensures.same)
    (there_ended most ahead fed c.args.self.now is c.in_default.is c.in-Some-judge.inner c.found_unless.new.self.judge
    c.in-Some-judge.is (found.Cut c.count-number.result) finding (λ k same. absurd (cc)) there))
    c.found_unless.ensures.there

pub returns-clause-there : goal.returns-clause-there
returns-clause-there c = IfOk-weaker c.found_unless-2.result _ _ (λ finding there most ahead fed is.
    subst (λ (i : RunJudge). EndsInStream fed (Some i) finding) (sym c.found_unless-2.ensures.same)
    (there_ended most ahead fed c.args.self.now is c.in_default.is c.in-Some-judge.inner c.found_unless-2.new.self.judge
    c.in-Some-judge.is (found.Explained c.saturating_sub-calls.result) finding (λ k same. absurd (cc)) there))
    c.found_unless-2.ensures.there
