use Rattle.stamped_value.proofs.NewSeat.{enters_by_load}
use Rattle.stamped_value.proofs.steps.enter.Goals as goal

pub enter-seat-requires : goal.enter-seat-requires
enter-seat-requires g c = rw (c.requires.step.0, c.requires.step.1, c.requires.enterable) (enters_by_load _ _)
