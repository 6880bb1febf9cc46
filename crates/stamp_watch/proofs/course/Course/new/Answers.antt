use Rattle.std.proofs.Common.{◌≡◌, length, ap, arith}
use Rattle.std.specs.Prelude.{drop, []}
use Rattle.stamp_watch.proofs.LettingGo.{spare_here}
use Rattle.stamp_watch.proofs.Looking.{looked_none}
use Rattle.stamp_watch.proofs.Running.{run_first}
use Rattle.stamp_watch.proofs.course.Course.new.Goals as goal

pub returns-clause-course : goal.returns-clause-course
returns-clause-course c =
    let on = run_first c.args.limits c.new-events.result.items c.in_ok-base.base c.in_ok-watch.watch
    c.new-events.ensures.items c.in_ok-base.ensures.watching c.in_ok-base.ensures.untold c.in_ok-watch.ensures in
    let none : length c.new-events.result.items ≡ 0 = ap length c.new-events.ensures.items in
    record {
      on = on;
      looked = looked_none (drop 0 c.new-events.result.items);
      spare_is = spare_here c.args.limits [] 0 0 c.new-events.result.items c.in_ok-base.base c.in_ok-watch.watch on
          c.in_ok-spare.spare 0 c.in_ok-spare.ensures (omega (arith, none));
    }

pub returns-clause-small : goal.returns-clause-small
returns-clause-small c ahead =
    let none : length c.new-events.result.items ≡ 0 = ap length c.new-events.ensures.items in
    record { place = omega arith; reach = omega arith; seen = omega arith; events = omega (arith, none) }
