use Rattle.std.proofs.Common.{◌≡◌, Option, Some, rules, subst}
use Rattle.stamp_watch.specs.Start.{BeganLateBy, IsJudgeUpTo}
use Rattle.stamped_watch.specs.declared.run_judge.RunJudge.{RunJudge}
use Rattle.stamped_watch.specs.StreamJudge.{ended_of}
use Rattle.stamped_watch.specs.inner.StreamJudge.{ended_in}
use Rattle.stamped_watch.proofs.Witnessing.{none_behind_late, text_told}
use Rattle.stamped_watch.proofs.stream_judge.StreamJudge.witness_at.Goals as goal

pub returns-in-Some-judge_up_to : goal.returns-in-Some-judge_up_to
returns-in-Some-judge_up_to c asked fed same keeps ends =
    let inner = c.in-Some.inner in
    let up : IsJudgeUpTo inner.judge c.args.number c.in-Some-judge_up_to.judge.now = search rules in
    let of : ended_of inner.judge c.args.number ≡ Some c.ended_by_numbers-ended.result =
    subst (λ (o : Option RunJudge). ended_in o c.args.number ≡ Some c.ended_by_numbers-ended.result) c.in-Some.is
    c.ended_by_numbers-ended.ensures in
    text_told asked fed c.args.self.now keeps inner c.in-Some.is c.args.number ends
    c.ended_by_numbers-ended.result of c.in_words-ended.result c.in_words-ended.ensures
    c.in-Some-judge_up_to.judge.now up c.args.most same c.witness_text.result c.witness_text.ensures

pub returns-in-None : goal.returns-in-None
returns-in-None c asked fed same keeps ends =
    let late : BeganLateBy c.in-Some.inner.judge c.args.number = search rules in
    none_behind_late asked fed c.args.self.now keeps c.in-Some.inner c.in-Some.is c.args.number ends late
