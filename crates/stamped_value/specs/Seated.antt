-- The seat in a handle or a guard.
use Rattle.std.specs.Prelude.{◌≡◌}
use Rattle.lent_table.specs.Lending.{TableId}
use Rattle.stamped_value.specs.declared.view.Held.{Held}
use Rattle.stamped_value.specs.ValueMade.{Seen}
use Rattle.stamped_value.specs.ValueLock.{ValueLock}
use Rattle.stamped_value.specs.Stands.{Stands}

-- it is of the lock's table, stands, and holds this mode
pub record IsSeated {T : Type 0} (lock : ValueLock T) (held : Held) (at : TableId) (me : Seen T) : Type 0 where
  pub table : at ≡ lock.table
  pub stands : Stands lock.limits me
  pub holds : me.0.held ≡ held
