use Rattle.stamped_value.proofs.Meeting.{meets}
use Rattle.stamped_value.proofs.steps.meet.Goals as goal

pub load_beside-requires : goal.load_beside-requires
load_beside-requires g c = (
  c.requires.table.0,
  c.requires.table.1,
  rw (c.requires.step.0, c.requires.step.1) (meets _ _ _ _ _),
)
