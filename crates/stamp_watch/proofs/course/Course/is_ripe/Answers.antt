use Rattle.std.proofs.Common.{◌+◌, ◌≤◌, length, arith}
use Rattle.stamp_watch.proofs.LettingGo.{spare_within}
use Rattle.stamp_watch.proofs.course.Course.is_ripe.Goals as goal

pub overflow_add-self : goal.overflow_add-self
overflow_add-self c =
    let on = c.requires in
    let within : c.args.self.now.place + c.args.self.now.reach ≤ length c.args.self.now.events.items =
    spare_within on.limits on.run c.args.self.now.first c.args.self.now.seen c.args.self.now.events.items
    c.args.self.now.base c.args.self.now.watch on.course_of.on c.args.self.now.place c.args.self.now.reach
    c.args.self.now.spare on.course_of.spare_is in omega (arith, within, c.args.self.now.events.ok.0)
