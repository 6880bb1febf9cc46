use Rattle.stamped_value.proofs.Ruling.{reads_so}
use Rattle.stamped_value.proofs.ruled_handle.RuledHandle.read_with.Goals as goal

pub returns : goal.returns
returns g c = rw (← c.self.view_is) (reads_so (λ x r. rw (← r.2) r.1) c.read_with.ensures)
