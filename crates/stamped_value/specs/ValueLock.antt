-- How a guarded value and the tokens of it are seen.
use Rattle.std.specs.Prelude.{Bool}
use Rattle.lent_table.specs.Lending.{TableId}
use Rattle.lent_table.specs.Table.{writes}
use Rattle.stamp_core.specs.Limits.{Bounds}
use Rattle.stamped_value.specs.ValueMade.{Seen}

-- a guarded value: which one it is, the limits of its lock, its first value, and whether threads may enter
pub record ValueLock (T : Type 0) : Type 0 where
  pub table : TableId
  pub limits : Bounds
  pub first : T
  pub enterable : Bool

-- a handle or a guard: of which lock it is, what it knows, and what it has of the value
pub record ValueToken (T : Type 0) : Type 0 where
  pub lock : ValueLock T
  pub me : Seen T

-- a token with x as the value that it may write
abbrev pub token_with : {T : Type 0} → ValueToken T → T → ValueToken T
token_with it x = record { lock = it.lock; me = (it.me.0, writes x) }
