use Rattle.std.proofs.Common.{◌+◌, ℕ, [], refl, subst}
use Rattle.stamp_watch.specs.Judge.{IsJudge}
use Rattle.stamp_watch.proofs.Delaying.{delayed_first}
use Rattle.stamp_watch.proofs.delay.Delay.new.Goals as goal

pub returns-clause-delayed : goal.returns-clause-delayed
returns-clause-delayed c = delayed_first c.args.limits c.args.most c.args.ahead _ refl
    (subst (λ (n : ℕ). IsJudge c.args.limits c.args.most (n + 64) [] c.in_ok-judge.judge)
    c.saturating_sub-window.ensures c.in_ok-judge.ensures.judge) c.in_ok-judge.ensures.kept
    c.saturating_sub-window.ensures c.new-2.ensures.counted c.new-3.ensures.items c.new-2.ensures.none refl refl refl
