use Rattle.std.proofs.Common.{[]}
use Rattle.stamp_machines.proofs.RunFacts.{run-recorded, record-of}
use Rattle.stamp_machines.proofs.running.Run.into_record.Goals as goal

pub unwrap-requires : goal.unwrap-requires
unwrap-requires c =
    c.of.ensures.some.1
    (rw (c.limits.ensures.limits, c.width.ensures.width) (run-recorded c.self.inside c.self.invariant))

pub returns : goal.returns
returns c =
    rw (← c.self.view_is)
    (record-of c.self.inside c.self.invariant [] c.unwrap.result
    (rw (c.unwrap.ensures, c.limits.ensures.limits, c.width.ensures.width) at c.of.ensures.same))
