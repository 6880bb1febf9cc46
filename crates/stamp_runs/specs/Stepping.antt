-- Positions where a call begins, or is withdrawn.
use Rattle.std.specs.Prelude.{ℕ, ◌≡◌, false}
use Rattle.stamp_core.specs.declared.call.Call.{Call}
use Rattle.stamp_runs.specs.Run.{Sets}
use Rattle.stamp_runs.specs.Run.Phase.{Asks, Idle}
use Rattle.stamp_runs.specs.Position.{Position, SameFree}

-- the lane is idle, and this call begins in it
pub record IsBegun {S : Type 0} (lane : ℕ) (call : Call) (p q : Position S) : Type 0 where
  pub idle : p.lanes lane ≡ Idle
  pub not_free : p.free lane ≡ false
  pub state : p.state ≡ q.state
  pub sets : Sets p.lanes q.lanes lane (Asks call)
  pub free : SameFree p.free q.free lane

-- the lane's call is not in effect, and is withdrawn
pub record IsWithdrawn {S : Type 0} (lane : ℕ) (p q : Position S) : Type 0 where
  pub call : Call
  pub asks : p.lanes lane ≡ Asks call
  pub state : p.state ≡ q.state
  pub sets : Sets p.lanes q.lanes lane Idle
  pub free : SameFree p.free q.free lane
