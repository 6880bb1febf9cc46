use Rattle.stamped_value.proofs.handle.ValueHandle.write_if.Goals as goal

pub returns : goal.returns
returns g c = rw (← c.self.view_is) c.write_if_section.ensures.section
