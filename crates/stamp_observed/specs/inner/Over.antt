-- What is over by a position.
use Rattle.std.specs.Prelude.{ℕ, ◌≤◌, MatchOption}
use Rattle.stamp_explain.specs.declared.observed.Observation.{Observation}
use Rattle.stamp_explain.specs.declared.observed.Returned.{Returned}

-- the call begins no later, and hasn't returned later
pub record IsOverBy (last : ℕ) (e : Observation) : Type 0 where
  pub begun : e.first ≤ last
  pub returned : MatchOption e.returned (Unit {0}) (λ (r : Returned). r.last ≤ last)
