-- A lock call under way on one of the locks' words.
use Rattle.std.specs.Prelude.{ℕ, Option}
use Rattle.stamp_core.specs.Limits.{Bounds}
use Rattle.stamp_core.specs.declared.call.Call.{Call}

pub record PhaseState : Type 0 where
  pub at : ℕ
  pub limits : Bounds
  pub call : Call
  pub seen : Option ℕ
