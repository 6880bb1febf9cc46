use Rattle.std.proofs.Common.{List, [], ◌∷◌, ◌++◌, ◌∙◌, ap, sym, subst}
use Rattle.stamp_runs.specs.declared.event.Event.{Event}
use Rattle.stamp_watch.specs.inner.Judging.{MayComeIn, SetsBusy}
use Rattle.stamp_watch.proofs.Forming.{form_first, of_lanes_more, busy_more}
use Rattle.stamp_watch.proofs.Reading.{take_read}
use Rattle.stamp_watch.proofs.Taking.{taken_all, taken_stops, no_stream}
use Rattle.stamp_watch.proofs.lanes.in_form.Goals as goal

pub loop-event-init : goal.loop-event-init
loop-event-init c = record { taken_is = c.new-taken.ensures.items; whole = form_first.0; lanes = form_first.1 }

pub returns-in_default : goal.returns-in_default
returns-in_default c = taken_stops c.args.events.now c.loop-event.taken.items c.loop-event.event-index
    c.loop-event.busy c.event-item.result c.loop-event-test.true c.event-item.is c.loop-event.invariant.taken_is
    c.loop-event.invariant.whole c.loop-event.invariant.lanes
    (no_stream c.loop-event.busy c.event-item.result c.in_default.ensures)

pub returns-in_default-busy_with : goal.returns-in_default-busy_with
returns-in_default-busy_with c = taken_stops c.args.events.now c.loop-event.taken.items c.loop-event.event-index
    c.loop-event.busy c.event-item.result c.loop-event-test.true c.event-item.is c.loop-event.invariant.taken_is
    c.loop-event.invariant.whole c.loop-event.invariant.lanes
    (subst (λ (e : Event). ¬ MayComeIn c.loop-event.busy e) c.in-Some.ensures c.in_default-busy_with.ensures)

pub loop-event-preserved : goal.loop-event-preserved
loop-event-preserved c = record {
  taken_is = c.in_ok-push.ensures.items ∙ ap (λ (e : Event). c.loop-event.taken.items ++ e ∷ []) c.in-Some.ensures ∙
      ap (λ (before : List Event). before ++ c.event-item.result ∷ []) c.loop-event.invariant.taken_is ∙
      sym (take_read c.args.events.now c.loop-event.event-index c.event-item.result c.loop-event-test.true
      c.event-item.is);
  whole = of_lanes_more c.args.events.now c.loop-event.event-index c.loop-event.busy c.event-item.result
      c.loop-event-test.true c.event-item.is c.loop-event.invariant.lanes c.loop-event.invariant.whole
      (subst (λ (e : Event). MayComeIn c.loop-event.busy e) c.in-Some.ensures c.in-Some-busy_with.ensures.0);
  lanes = busy_more c.args.events.now c.loop-event.event-index c.loop-event.busy c.event-item.result
      c.loop-event-test.true c.event-item.is c.loop-event.invariant.lanes c.in-Some-busy_with.after
      (subst (λ (e : Event). SetsBusy c.loop-event.busy e c.in-Some-busy_with.after) c.in-Some.ensures
      c.in-Some-busy_with.ensures.1);
}

pub returns : goal.returns
returns c = taken_all c.args.events.now c.loop-event.taken.items c.loop-event.event-index c.loop-event-test.false
    c.loop-event.invariant.taken_is c.loop-event.invariant.whole
