use Rattle.std.proofs.Common.{◌*◌, ◌+◌, ◌≤◌, length, arith}
use Rattle.stamp_watch.proofs.GoingOn.{few_kept}
use Rattle.stamp_watch.proofs.online.Judge.kept.Goals as goal

pub returns-clause-few : goal.returns-clause-few
returns-clause-few c limits most ahead run is =
    let few : length c.args.self.now.course.events.items ≤ 3 * (ahead + 1024) =
    few_kept ahead c.args.self.now.course is.small in
    omega (arith, few, c.len.ensures, c.args.self.now.course.events.ok.0)
