use Rattle.stamp_machines.proofs.RunFacts.{run-reported, record-of}
use Rattle.stamp_machines.proofs.running.Run.into_reported.Goals as goal

pub unwrap-requires : goal.unwrap-requires
unwrap-requires c =
    c.of_reported.ensures.some.1
    (rw (c.limits.ensures.limits, c.width.ensures.width)
    (run-reported c.self.inside c.self.invariant c.args.report.items
    (rw (← c.self.view_is) at c.requires)))

pub returns : goal.returns
returns c =
    rw (← c.self.view_is)
    (record-of c.self.inside c.self.invariant c.args.report.items c.unwrap.result
    (rw (c.unwrap.ensures, c.limits.ensures.limits, c.width.ensures.width) at c.of_reported.ensures.same))
