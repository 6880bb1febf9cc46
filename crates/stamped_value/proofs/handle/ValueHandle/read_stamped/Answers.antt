use Rattle.stamped_value.proofs.handle.ValueHandle.read_stamped.Goals as goal

pub returns : goal.returns
returns g c = rw (← c.self.view_is) c.read_section.ensures.section
