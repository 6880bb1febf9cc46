-- One event on, by the parts of a half.
use Rattle.std.specs.Prelude.{ℕ, ◌≡◌, ◌<◌, List, length, slice_index_or}
use Rattle.stamp_sets.specs.declared.open_call.OpenCall.{OpenCall}
use Rattle.stamp_sets.specs.declared.position.Position.{Position}
use Rattle.stamp_sets.specs.Judged.{Judged}
use Rattle.stamp_sets.specs.Lanes.{SetsBit}
use Rattle.stamp_sets.specs.inner.Effect.{SettlesOne}

-- the numbers of an object at first
pub record IsOpening {S : Type 0} (o : Judged S) (p : Position) : Type 0 where
  pub state : o.holds p.state o.start
  pub none : p.in_effect ≡ 0
  pub none_free : p.free ≡ 0

-- the call begins in the lane, and takes effect at once if it changes nothing and may
pub record BeginsIn {S : Type 0} (o : Judged S) (begun : OpenCall) (lane : ℕ) (p q : Position) : Type 0 where
  pub plain : Position
  pub state : plain.state ≡ p.state
  pub clears : SetsBit p.in_effect plain.in_effect lane 0
  pub free : plain.free ≡ p.free
  pub settles : SettlesOne o begun lane plain q

-- so it does in each of these
pub record AreBegun {S : Type 0} (o : Judged S) (begun : OpenCall) (lane : ℕ) (old new : List Position) : Type 0 where
  pub many : length new ≡ length old
  pub each : (k : ℕ) (d : Position) → k < length old →
      BeginsIn o begun lane (slice_index_or old k d) (slice_index_or new k d)
