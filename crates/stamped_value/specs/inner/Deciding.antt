-- How far a call of a seat has gone, before it is made.
use Rattle.std.specs.Prelude.{◌≡◌, ℕ}
use mathlib.Core.List.{IsPrefix}
use Rattle.stamp_core.specs.Limits.{Bounds}
use Rattle.stamp_core.specs.declared.call.Call.{Call}
use Rattle.stamp_threads.specs.inner.GoesAsMachine as passes
use Rattle.stamped_value.specs.ValueMade.{Seen}
use Rattle.stamped_value.specs.Stands.{Stands}
use Rattle.stamped_value.specs.inner.Held.{MayCall}
use Rattle.stamped_value.specs.inner.VersionRule.{LoadTells}

module _ {T : Type 0} where
  -- the seat holds what it held, and knows more values if any
  pub record HoldsStill (v w : Seen T) : Type 0 where
    pub begins : IsPrefix v.0.values w.0.values
    pub held : w.0.held ≡ v.0.held
    pub hold : w.1 ≡ v.1

  -- the call is to decide on this word, which its last access found. The seat, which was v when the call began, was
  -- `before` until then
  pub record IsToDecide (limits : Bounds) (call : Call) (v : Seen T) (found : ℕ) (w : Seen T) : Type 0 where
    pub pass : passes.IsToDecide limits call v.0.pass found w.0.pass
    pub before : Seen T
    pub still : HoldsStill v before
    pub tells : LoadTells limits call before found w

  -- the call is to decide on this word, and the seat stood when it began, in a mode that allows the call
  pub record IsUnderWay (limits : Bounds) (call : Call) (v : Seen T) (found : ℕ) (w : Seen T) : Type 0 where
    pub to_decide : IsToDecide limits call v found w
    pub stands : Stands limits v
    pub may : MayCall call v.0.held
