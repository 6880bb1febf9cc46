use Rattle.std.proofs.Common.{subst}
use Rattle.stamp_runs.specs.declared.event.Event.{Event}
use Rattle.stamp_sets.specs.declared.ending.Ending.TheVariants.{Never}
use Rattle.stamp_watch.specs.inner.Judging.{IsEndTold}
use Rattle.stamp_watch.proofs.judge.end_told.Goals as goal

pub returns-in-Begins : goal.returns-in-Begins
returns-in-Begins c = subst (λ (e : Event). IsEndTold e c.args.first c.args.ahead.now c.end_ahead.result)
    c.in-Begins.ensures c.end_ahead.ensures

pub returns-in-Returns : goal.returns-in-Returns
returns-in-Returns c = subst (λ (e : Event). IsEndTold e c.args.first c.args.ahead.now Never) c.in-Returns.ensures tt

pub returns-in-Withdraws : goal.returns-in-Withdraws
returns-in-Withdraws c =
    subst (λ (e : Event). IsEndTold e c.args.first c.args.ahead.now Never) c.in-Withdraws.ensures tt
