use Rattle.std.proofs.Common.{◌∙◌, sym}
use Rattle.std.proofs.lemmas.Bool.{false≢true}
use Rattle.stamp_watch.proofs.Delaying.{given_one, judge_given_rest, kept_one, room_then}
use Rattle.stamp_watch.proofs.Kept.{kept_rest}
use Rattle.stamp_watch.proofs.delay.give.Goals as goal

pub returns-then-has_found-clause-given : goal.returns-then-has_found-clause-given
returns-then-has_found-clause-given c limits most ahead run is = judge_given_rest limits most ahead run
    c.args.events.now c.loop-event.event-index c.loop-event.judge
    (λ none. false≢true (sym (c.has_found.ensures.1 none) ∙ c.if-has_found.true))
    (c.loop-event.invariant.given limits most ahead run is)

pub returns-then-has_found-clause-kept : goal.returns-then-has_found-clause-kept
returns-then-has_found-clause-kept c limits most ahead run is keeps = kept_rest limits run c.args.events.now
    c.loop-event.event-index c.loop-event.judge (c.loop-event.invariant.kept limits most ahead run is keeps)

pub loop-event-preserved : goal.loop-event-preserved
loop-event-preserved c = record {
  given = λ limits most ahead run is. given_one c.args.events.now c.loop-event.event-index c.event-item.result
      c.loop-event.judge c.push.new.self c.loop-event-test.true c.event-item.is c.in_ok-push.ensures.given limits most
      ahead run (c.loop-event.invariant.given limits most ahead run is);
  kept = λ limits most ahead run is keeps. kept_one c.args.events.now c.loop-event.event-index c.event-item.result
      c.loop-event.judge c.push.new.self c.loop-event-test.true c.event-item.is c.in_ok-push.ensures.given
      c.in_ok-push.ensures.kept limits most
      ahead run (c.loop-event.invariant.given limits most ahead run is)
      (c.loop-event.invariant.kept limits most ahead run is keeps);
  known = c.in_ok-push.ensures.known;
  room = room_then c.args.events.now c.loop-event.event-index c.event-item.result c.loop-event.judge
      c.push.new.self c.loop-event-test.true c.event-item.is c.in_ok-push.ensures.given c.loop-event.invariant.known
      (c.has_found.ensures.0 c.if-has_found.false) c.loop-event.invariant.room;
}

pub returns-clause-kept : goal.returns-clause-kept
returns-clause-kept c limits most ahead run is keeps = kept_rest limits run c.args.events.now c.loop-event.event-index
    c.loop-event.judge (c.loop-event.invariant.kept limits most ahead run is keeps)
