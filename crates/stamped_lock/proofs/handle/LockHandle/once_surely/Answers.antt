use Rattle.stamped_lock.proofs.NeverLosing.{never_losing_is_tried, never_loses}
use Rattle.stamped_lock.proofs.handle.LockHandle.once_surely.Goals as goal

pub once-requires-clause-at_once : goal.once-requires-clause-at_once
once-requires-clause-at_once g c = never_losing_is_tried c.args.call c.requires

pub unreachable-requires : goal.unreachable-requires
unreachable-requires g c = never_loses _ _ _ _ _ _ c.requires c.in-Err.ensures.made.exchange
