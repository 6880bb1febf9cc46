use Rattle.stamp_observed.proofs.SeenStuck.{made_stuck_as}
use Rattle.stamp_observed.proofs.small.small_of.Goals as goal

pub returns : goal.returns
returns c =
    made_stuck_as c.args.observed.now c.args.most c.args.entry c.in_ok-fault.fault c.seen_until.result
    c.requires.observed c.requires.stuck c.in_ok-fault.ensures.fault c.in_ok-fault.ensures.entry
    c.seen_until.ensures.seen
