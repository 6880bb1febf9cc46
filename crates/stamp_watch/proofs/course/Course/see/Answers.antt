use Rattle.std.proofs.Common.{List, ◌+◌, ◌++◌, Some, arith, length, refl, subst}
use Rattle.std.specs.Prelude.{take, drop}
use Rattle.stamp_core.specs.Limits.{Bounds}
use Rattle.stamp_runs.specs.declared.event.Event.{Event}
use Rattle.stamp_watch.specs.Course.{IsCourse}
use Rattle.stamp_watch.specs.inner.Judging.{IsStep, IsStuckAmong}
use Rattle.stamp_watch.proofs.Judged.{never_refused}
use Rattle.stamp_watch.proofs.Looking.{looked_none}
use Rattle.stamp_watch.proofs.Running.{run_here, run_steps, run_dead, run_too_many, run_stuck_from, run_finds}
use Rattle.stamp_watch.proofs.KeepingEnds.{keeps_found, keeps_same}
use Rattle.stamp_watch.proofs.Kept.{kept_of, kept_same}
use Rattle.stamp_watch.proofs.SameRuns.{room_still}
use Rattle.stamp_watch.proofs.course.Course.see.Goals as goal
use Rattle.stamp_watch.proofs.course.Course.see.Goals.{In_ok-progress}

pub step-requires : goal.step-requires
step-requires c = record {
  past = c.requires.on.course_of.on.past ++ take c.args.self.now.seen c.args.self.now.events.items;
  watching = c.requires.on.course_of.on.now.judging.watching;
}

-- what the answer means
step_here : (c : In_ok-progress) (limits : Bounds) (run : List Event) (is : IsCourse limits run c.args.self.now) →
    IsStep limits (c.args.self.now.first + c.args.self.now.seen)
    (is.on.past ++ take c.args.self.now.seen c.args.self.now.events.items) c.args.event.now
    (drop (c.args.self.now.seen + 1) c.args.self.now.events.items) c.args.most c.step.new.watch
    c.in_ok-progress.progress
step_here c limits run is = c.in_ok-progress.ensures.step limits (c.args.self.now.first + c.args.self.now.seen)
    (is.on.past ++ take c.args.self.now.seen c.args.self.now.events.items)
    (drop (c.args.self.now.seen + 1) c.args.self.now.events.items) c.requires.told.told
    (run_here limits run c.args.self.now.first c.args.self.now.seen c.args.self.now.events.items
    c.args.self.now.base c.args.self.now.watch is.on c.args.event.now c.requires.front.less c.requires.front.read
    c.args.most)

pub returns-in-Going-clause-onward : goal.returns-in-Going-clause-onward
returns-in-Going-clause-onward c ahead =
    let at = (goal.at.returns-in-Going-clause-onward c).In_ok-progress in
    record {
      same = record {
        long = refl;
        courses = λ limits run is. record {
          on = run_steps limits run c.args.self.now.first c.args.self.now.seen c.args.self.now.events.items
              c.args.self.now.base c.args.self.now.watch is.on c.args.event.now c.requires.front.less
              c.requires.front.read c.args.most c.args.ends c.step.new.watch c.in_ok-progress.progress c.in-Going.is
              c.requires.told.told c.requires.known (step_here at limits run is);
          looked = looked_none (drop (c.args.self.now.seen + 1) c.args.self.now.events.items);
          spare_is = is.spare_is;
        };
      };
      fewer = omega (arith, c.requires.front.less);
    }

pub unreachable-requires : goal.unreachable-requires
unreachable-requires c =
    let at = (goal.at.unreachable-requires c).In_ok-progress in
    let on = c.requires.on in
    never_refused on.limits c.args.self.now.first on.course_of.on.past c.args.self.now.events.items c.args.most
    c.args.self.now.seen c.args.event.now c.requires.front.less c.requires.front.read c.step.new.watch
    c.in_ok-progress.progress (step_here at on.limits on.run on.course_of) c.in-Refused.is

pub find_stuck-requires-clause-stuck : goal.find_stuck-requires-clause-stuck
find_stuck-requires-clause-stuck c =
    let at = (goal.at.find_stuck-requires-clause-stuck c).In_ok-progress in
    let on = c.requires.on in
    run_stuck_from on.limits on.run c.args.self.now.first c.args.self.now.seen c.args.self.now.events.items
    c.args.self.now.base c.args.self.now.watch on.course_of.on c.args.self.now.seen
    c.as_slice.result.now c.as_slice.ensures.value (omega arith)
    (run_dead on.limits on.run c.args.self.now.first c.args.self.now.seen c.args.self.now.events.items
    c.args.self.now.base c.args.self.now.watch on.course_of.on c.args.event.now c.requires.front.less
    c.requires.front.read c.args.most c.step.new.watch c.in_ok-progress.progress c.in-Dead.is
    (step_here at on.limits on.run on.course_of))

pub returns-in_ok-verdict-in-Dead-clause-onward : goal.returns-in_ok-verdict-in-Dead-clause-onward
returns-in_ok-verdict-in-Dead-clause-onward c ahead limits run is =
    let at = (goal.at.returns-in_ok-verdict-in-Dead-clause-onward c).In_ok-progress in
    run_finds limits run c.args.self.now.first c.args.self.now.seen c.args.self.now.events.items
    c.args.self.now.base c.args.self.now.watch is.on c.args.self.now.seen c.args.most (Some ahead)
    c.as_slice.result.now
    c.in_ok-verdict-in-Dead.verdict c.as_slice.ensures.value (omega arith)
    (run_dead limits run c.args.self.now.first c.args.self.now.seen c.args.self.now.events.items
    c.args.self.now.base c.args.self.now.watch is.on c.args.event.now c.requires.front.less c.requires.front.read
    c.args.most c.step.new.watch c.in_ok-progress.progress c.in-Dead.is (step_here at limits run is))
    (c.in_ok-verdict-in-Dead.ensures.found (Some ahead))

pub returns-in_ok-verdict-in-Dead-clause-tells : goal.returns-in_ok-verdict-in-Dead-clause-tells
returns-in_ok-verdict-in-Dead-clause-tells c =
    let on = c.requires.on in
    keeps_same c.args.self.now _ refl refl refl c.in_ok-verdict-in-Dead.verdict
    (keeps_found on.limits on.run c.args.self.now c.args.most (Some 0) c.in_ok-verdict-in-Dead.verdict on.course_of
    (returns-in_ok-verdict-in-Dead-clause-onward c 0 on.limits on.run on.course_of)
    (subst (λ (xs : List Event). IsStuckAmong (c.args.self.now.first + c.args.self.now.seen)
    (c.args.self.now.first + length xs) c.in_ok-verdict-in-Dead.verdict) c.as_slice.ensures.value
    c.in_ok-verdict-in-Dead.ensures.among))

pub returns-in-TooMany-clause-onward : goal.returns-in-TooMany-clause-onward
returns-in-TooMany-clause-onward c ahead limits run is =
    let at = (goal.at.returns-in-TooMany-clause-onward c).In_ok-progress in
    run_too_many limits run c.args.self.now.first c.args.self.now.seen c.args.self.now.events.items
    c.args.self.now.base c.args.self.now.watch is.on c.args.event.now c.requires.front.less c.requires.front.read
    c.args.most (Some ahead) c.step.new.watch c.in_ok-progress.progress c.in-TooMany.is (step_here at limits run is)

pub returns-in-Going-clause-small : goal.returns-in-Going-clause-small
returns-in-Going-clause-small c ahead fresh = record {
  place = fresh.small.place;
  reach = fresh.small.reach;
  seen = omega (arith, fresh.fresh);
  events = omega (arith, fresh.small.events);
}

pub returns-in_ok-verdict-in-Dead-clause-small : goal.returns-in_ok-verdict-in-Dead-clause-small
returns-in_ok-verdict-in-Dead-clause-small c ahead fresh = record {
  place = fresh.small.place;
  reach = fresh.small.reach;
  seen = fresh.small.seen;
  events = fresh.small.events;
}

pub returns-in-TooMany-clause-small : goal.returns-in-TooMany-clause-small
returns-in-TooMany-clause-small c ahead fresh = record {
  place = fresh.small.place;
  reach = fresh.small.reach;
  seen = fresh.small.seen;
  events = fresh.small.events;
}

pub returns-in-Going-clause-kept : goal.returns-in-Going-clause-kept
returns-in-Going-clause-kept c limits run is =
    let same = (returns-in-Going-clause-onward c 0).same in
    kept_of limits run _ (same.courses limits run is) (room_still c.args.self.now _ same c.requires.room)

pub returns-in_ok-verdict-in-Dead-clause-kept : goal.returns-in_ok-verdict-in-Dead-clause-kept
returns-in_ok-verdict-in-Dead-clause-kept c limits run is =
    kept_same limits run c.args.self.now _ (record { base = refl; first = refl; events = refl; seen = refl })
    (kept_of limits run c.args.self.now is c.requires.room)

pub returns-in-TooMany-clause-kept : goal.returns-in-TooMany-clause-kept
returns-in-TooMany-clause-kept c limits run is =
    kept_same limits run c.args.self.now _ (record { base = refl; first = refl; events = refl; seen = refl })
    (kept_of limits run c.args.self.now is c.requires.room)
