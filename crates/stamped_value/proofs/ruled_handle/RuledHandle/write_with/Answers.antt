use Rattle.stamped_value.proofs.Ruling.{writes_so_if}
use Rattle.stamped_value.proofs.ruled_handle.RuledHandle.write_with.Goals as goal

pub returns-clause-section : goal.returns-clause-section
returns-clause-section g c = rw (← c.self.view_is) (writes_so_if _ _ _ _
    (λ a x y w. rw (← w.shows, ← w.leaves) w.met) c.write_with.result c.write_with.ensures.section)

pub returns-clause-spent : goal.returns-clause-spent
returns-clause-spent g c = rw (← c.self.view_is) c.write_with.ensures.spent
