use Rattle.std.proofs.Common.{subst}
use Rattle.stamped_watch.specs.inner.StreamJudge.{IsFrontFor}
use Rattle.stamped_watch.proofs.TakingEvent.{whole_for}
use Rattle.stamped_watch.proofs.stream_judge.StreamJudge.take_event.Goals as goal

pub returns-in_ok-give-in-Whole-clause-taken : goal.returns-in_ok-give-in-Whole-clause-taken
returns-in_ok-give-in-Whole-clause-taken c = whole_for c.args.front.now c.told-front c.args.self.now c.requires.none
    c.args.behind.now c.in-Whole.event c.give.new.self
    (subst (IsFrontFor c.args.self.now.judge c.args.front.now) c.in-Whole.is c.requires.front)
    c.in_ok-give-in-Whole.ensures.taken
