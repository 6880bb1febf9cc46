use Rattle.stamped_value.proofs.handle.ValueHandle.read_with.Goals as goal

pub returns : goal.returns
returns g c = rw (← c.self.view_is) c.read_section-answer.ensures.section.0
