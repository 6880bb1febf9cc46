use Rattle.std.proofs.Common.{refl, subst, sym}
use Rattle.std.proofs.lemmas.Result.{IfOk-weaker}
use Rattle.stamp_watch.specs.inner.Judging.{AreTaken}
use Rattle.stamp_watch.proofs.Taking.{taken_whole}
use Rattle.stamp_watch.proofs.judge.judge_run.Goals as goal

pub judge_taken-requires : goal.judge_taken-requires
judge_taken-requires c = taken_whole c.args.events.now c.in_ok-taken.taken.items c.as_slice.result.now
    c.in_ok-taken.ensures c.as_slice.ensures.value

pub returns : goal.returns
returns c = IfOk-weaker c.judge_taken.result _ _ (λ verdict says. says c.args.events.now
    (subst (AreTaken c.args.events.now) (sym c.as_slice.ensures.value) c.in_ok-taken.ensures) refl)
    c.judge_taken.ensures.verdict
