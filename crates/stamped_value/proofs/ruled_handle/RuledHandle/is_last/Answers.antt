use Rattle.stamped_value.proofs.ruled_handle.RuledHandle.is_last.Goals as goal

pub returns : goal.returns
returns g c = rw (← c.self.view_is) c.is_last.ensures
