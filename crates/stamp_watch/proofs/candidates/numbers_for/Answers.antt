use Rattle.stamp_watch.proofs.LeftSince.{returns_within}
use Rattle.stamp_watch.proofs.candidates.numbers_for.Goals as goal

pub numbers_since-requires : goal.numbers_since-requires
numbers_since-requires c = returns_within c.args.events.now c.args.place c.in-Some.from c.requires c.in-Some.ensures
