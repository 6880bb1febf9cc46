use Rattle.stamped_value.proofs.Ruling.{writes_ruled_if}
use Rattle.stamped_value.proofs.ruled_handle.RuledHandle.write_if.Goals as goal

pub returns : goal.returns
returns g c = rw (← c.self.view_is) (writes_ruled_if _ _ _ _ _ _ _ c.write_if.result _ _
    (λ yes x t. rw (← t.shows) t.says.met) (λ a x y w. rw (← w.shows, ← w.leaves) w.met) c.write_if.ensures)
