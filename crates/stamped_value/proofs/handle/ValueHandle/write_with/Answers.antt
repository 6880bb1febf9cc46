use Rattle.stamped_value.proofs.handle.ValueHandle.write_with.Goals as goal

pub returns-clause-section : goal.returns-clause-section
returns-clause-section g c = rw (← c.self.view_is) c.write_section.ensures.section

pub returns-clause-spent : goal.returns-clause-spent
returns-clause-spent g c = rw (← c.self.view_is) c.write_section.ensures.spent
