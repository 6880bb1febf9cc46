use Rattle.stamped_value.proofs.Ruling.{reads_so_by}
use Rattle.stamped_value.proofs.ruled_handle.RuledHandle.read_stamped.Goals as goal

pub returns : goal.returns
returns g c = rw (← c.self.view_is) (reads_so_by (λ x r. rw (← r.2) r.1) c.read_stamped.ensures)
