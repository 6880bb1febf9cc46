use Rattle.std.proofs.Common.{arith, refl, subst, sym}
use Rattle.std.proofs.lemmas.List.{drop_all}
use Rattle.stamp_watch.specs.SoFar.{BeginWithOpenCall}
use Rattle.stamp_watch.specs.inner.Course.{IsSameRun}
use Rattle.stamp_watch.proofs.SameRuns.{same_run_on, on_course_still, room_still}
use Rattle.stamp_watch.proofs.Kept.{kept_of}
use Rattle.stamp_watch.proofs.course.Course.go_on.Goals as goal
use Rattle.stamp_watch.proofs.course.Course.go_on.Goals.{In_ok-let_go}

pub unseen-init : goal.unseen-init
unseen-init c = record {
  same = record { long = refl; courses = λ limits run is. is };
  small = λ small. small;
}

pub let_go-requires-clause-on : goal.let_go-requires-clause-on
let_go-requires-clause-on c = on_course_still c.args.self.now c.unseen.self c.unseen.invariant.same c.requires.on

pub let_go-requires-clause-room : goal.let_go-requires-clause-room
let_go-requires-clause-room c = room_still c.args.self.now c.unseen.self c.unseen.invariant.same c.requires.room

-- so far, with what was let go of
let_go_here : (c : In_ok-let_go) → IsSameRun c.args.self.now c.let_go.new.self
let_go_here c = same_run_on c.args.self.now c.unseen.self c.let_go.new.self c.unseen.invariant.same
    c.in_ok-let_go.ensures.go.same

pub step_on-requires-clause-on : goal.step_on-requires-clause-on
step_on-requires-clause-on c = on_course_still c.args.self.now c.let_go.new.self
    (let_go_here (goal.at.step_on-requires-clause-on c).In_ok-let_go) c.requires.on

pub step_on-requires-clause-room : goal.step_on-requires-clause-room
step_on-requires-clause-room c = room_still c.args.self.now c.let_go.new.self
    (let_go_here (goal.at.step_on-requires-clause-room c).In_ok-let_go) c.requires.room

pub step_on-requires-clause-more : goal.step_on-requires-clause-more
step_on-requires-clause-more c = omega (
  arith,
  c.in_ok-let_go.ensures.go.as_many,
  c.unseen-test.true,
  c.len.ensures,
  c.unseen.self.events.ok.0,
)

pub unseen-preserved : goal.unseen-preserved
unseen-preserved c = record {
  same = same_run_on c.args.self.now c.let_go.new.self c.step_on.new.self
      (let_go_here (goal.at.unseen-preserved c).In_ok-let_go) (rw c.in-Steps.is at c.in_ok-onward.ensures.onward).same;
  small = λ small. c.in_ok-onward.ensures.small (c.in_ok-let_go.ensures.small c.args.ahead
      (c.unseen.invariant.small small));
}

pub unseen-smaller : goal.unseen-smaller
unseen-smaller c = omega (
  arith,
  (rw c.in-Steps.is at c.in_ok-onward.ensures.onward).fewer,
  c.in_ok-let_go.ensures.go.as_many,
)

pub returns-in-Waits-clause-found : goal.returns-in-Waits-clause-found
returns-in-Waits-clause-found c = record {
  same = same_run_on c.args.self.now c.let_go.new.self c.step_on.new.self
      (let_go_here (goal.at.returns-in-Waits-clause-found c).In_ok-let_go)
      (rw c.in-Waits.is at c.in_ok-onward.ensures.onward).same;
  near = (rw c.in-Waits.is at c.in_ok-onward.ensures.onward).near;
}

pub returns-in-Finds-clause-found : goal.returns-in-Finds-clause-found
returns-in-Finds-clause-found c limits run is = (rw c.in-Finds.is at c.in_ok-onward.ensures.onward) limits run
    ((let_go_here (goal.at.returns-in-Finds-clause-found c).In_ok-let_go).courses limits run is)

pub returns-in-Waits-clause-small : goal.returns-in-Waits-clause-small
returns-in-Waits-clause-small c small = c.in_ok-onward.ensures.small
    (c.in_ok-let_go.ensures.small c.args.ahead (c.unseen.invariant.small small))

pub returns-in-Finds-clause-small : goal.returns-in-Finds-clause-small
returns-in-Finds-clause-small c small = c.in_ok-onward.ensures.small
    (c.in_ok-let_go.ensures.small c.args.ahead (c.unseen.invariant.small small))

pub returns-clause-found : goal.returns-clause-found
returns-clause-found c = record {
  same = c.unseen.invariant.same;
  near = record {
    events = omega (arith, c.unseen-test.false, c.len.ensures, c.unseen.self.events.ok.0);
    waits = subst BeginWithOpenCall (sym (drop_all c.unseen.self.seen c.unseen.self.events.items
        (omega (arith, c.unseen-test.false, c.len.ensures, c.unseen.self.events.ok.0)))) tt;
  };
}

pub returns-in-Waits-clause-kept : goal.returns-in-Waits-clause-kept
returns-in-Waits-clause-kept c limits run is = c.in_ok-onward.ensures.kept limits run
    ((let_go_here (goal.at.returns-in-Waits-clause-kept c).In_ok-let_go).courses limits run is)

pub returns-in-Finds-clause-kept : goal.returns-in-Finds-clause-kept
returns-in-Finds-clause-kept c limits run is = c.in_ok-onward.ensures.kept limits run
    ((let_go_here (goal.at.returns-in-Finds-clause-kept c).In_ok-let_go).courses limits run is)

pub returns-clause-kept : goal.returns-clause-kept
returns-clause-kept c limits run is = kept_of limits run c.unseen.self (c.unseen.invariant.same.courses limits run is)
    (room_still c.args.self.now c.unseen.self c.unseen.invariant.same c.requires.room)

pub returns-in-Finds-clause-tells : goal.returns-in-Finds-clause-tells
returns-in-Finds-clause-tells c = rw c.in-Finds.is at c.in_ok-onward.ensures.tells
