use Rattle.std.proofs.Common.{List, subst}
use Rattle.stamp_runs.specs.declared.event.Event.{Event}
use Rattle.stamp_watch.specs.Ahead.{IsSpared}
use Rattle.stamp_watch.proofs.Delaying.{begun_none}
use Rattle.stamp_watch.proofs.delay.Delay.begin_aside.Goals as goal

pub returns-in-None-clause-begun : goal.returns-in-None-clause-begun
returns-in-None-clause-begun c limits most ahead run is whole =
    begun_none limits most ahead run c.args.self.now is c.args.end.now
    (subst (IsSpared c.args.self.now.aside.items) c.lane_of.ensures
    (subst (λ (xs : List Event). IsSpared xs c.lane_of.result) c.as_slice.ensures.value c.in-None.ensures))
