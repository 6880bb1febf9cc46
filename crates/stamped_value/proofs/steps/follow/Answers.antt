use Rattle.stamped_value.proofs.Meeting.{follows}
use Rattle.stamped_value.proofs.steps.follow.Goals as goal

pub load_beside-requires : goal.load_beside-requires
load_beside-requires g c = (
  c.requires.table.0,
  c.requires.table.1,
  rw c.requires.step (follows _ _ _ _ _ c.requires.free),
)
