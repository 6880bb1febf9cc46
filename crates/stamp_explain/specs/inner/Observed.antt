-- What an observer may tell of one call.
use Rattle.std.specs.Prelude.{ℕ, ◌<◌, IsTrue}
use Rattle.stamp_core.specs.Call.{call_suits}
use Rattle.stamp_explain.specs.declared.observed.Observation.{Observation}
use Rattle.stamp_explain.specs.Observed.{IsInterval}

-- what an observer may tell of one call
pub record MayBeTold (width : ℕ) (e : Observation) : Type 0 where
  pub interval : IsInterval e
  pub thread : e.thread < 64
  pub suits : IsTrue (call_suits width e.call)
