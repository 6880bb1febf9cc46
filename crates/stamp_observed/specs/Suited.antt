-- What each call of an observed history that was read keeps to, whatever the others are.
use Rattle.std.specs.Prelude.{◌<◌, IsTrue}
use Rattle.std.specs.List.{All}
use Rattle.stamp_core.specs.Call.{call_suits}
use Rattle.stamp_explain.specs.declared.observed.Observation.{Observation}
use Rattle.stamp_explain.specs.Observed.{ObservedHistory}

-- threads are below 64, and the calls suit the width
pub record AreSuited (h : ObservedHistory) : Type 0 where
  pub threads : All (λ (e : Observation). e.thread < 64) h.entries
  pub suit : All (λ (e : Observation). IsTrue (call_suits h.width e.call)) h.entries
