use Rattle.std.proofs.Common.{◌∙◌, ℕ, sym, ap}
use Rattle.stamp_runs.specs.Run.{lane_of}
use Rattle.stamp_runs.specs.declared.event.Event.TheVariants.{Begins}
use Rattle.stamp_sets.specs.SmallCall.{call_of}
use Rattle.stamp_watch.specs.Stream.{event_of}
use Rattle.stamp_watch.proofs.OpenCalls.{begun_here, begun_on}
use Rattle.stamp_watch.proofs.candidates.begun_then.Goals as goal

pub returns-then-other-lane : goal.returns-then-other-lane
returns-then-other-lane c before place_is last = begun_here before c.args.event.now c.args.lane c.args.place
    c.in-Begins.call (sym c.small.ensures ∙ ap event_of c.in-Begins.is ∙
    ap (λ (l : ℕ). Begins l (call_of c.in-Begins.call))
    c.if-other-lane.true) place_is

pub returns-else-other-lane : goal.returns-else-other-lane
returns-else-other-lane c before place_is last = begun_on before c.args.event.now c.args.lane c.args.last
    (λ same. c.if-other-lane.false
    (sym (ap lane_of (sym c.small.ensures ∙ ap event_of c.in-Begins.is)) ∙ same)) last

pub returns-else-other-lane-2 : goal.returns-else-other-lane-2
returns-else-other-lane-2 c before place_is last = begun_on before c.args.event.now c.args.lane c.args.last
    (λ same. c.if-other-lane-2.false
    (sym (ap lane_of (sym c.small.ensures ∙ ap event_of c.in-Returns.is)) ∙ same)) last

pub returns-else-other-lane-3 : goal.returns-else-other-lane-3
returns-else-other-lane-3 c before place_is last = begun_on before c.args.event.now c.args.lane c.args.last
    (λ same. c.if-other-lane-3.false
    (sym (ap lane_of (sym c.small.ensures ∙ ap event_of c.in-Withdraws.is)) ∙ same)) last
