use Rattle.std.proofs.Common.{rules}
use Rattle.stamped_value.proofs.Looking.{learns_load}
use Rattle.stamped_value.proofs.steps.load.Goals as goal

pub load-requires : goal.load-requires
load-requires g c = (
  search rules,
  rw (c.requires.step.0, c.requires.step.1) (learns_load _ _ _ _ c.requires.lock_call),
)
