-- The release of a guard, also where it is dropped.
use Rattle.std.specs.Prelude.{◌≢◌, ℕ}
use Rattle.stamp_core.specs.declared.call.Call.TheVariants.{UnlockWrite, UnlockRead, ToOptimistic}
use Rattle.stamp_core.specs.declared.reply.Reply.TheVariants.{Stamp, Done}
use Rattle.stamped_value.specs.Held.{stamp_held}
use Rattle.stamped_value.specs.ValueLock.{ValueToken}
use Rattle.stamped_value.specs.ValueCalls.{Calls}
use Rattle.stamped_value.specs.Outcomes.{LeavesWhatWritten}
use Rattle.stamped_value.specs.OfStamp.{IsOfStamp, IsOfLast}

module _ {T : Type 0} where
  -- read mode was released, by the stamp that the guard held
  abbrev pub Releases : ValueToken T → Type 0
  Releases g = (after : ValueToken T) × Calls (UnlockRead (stamp_held g.me.0.held)) Done g after

  -- write mode was released so, and what was written is the last value
  abbrev pub ReleasesWritten : ValueToken T → Type 0
  ReleasesWritten g = (after : ValueToken T) × Calls (UnlockWrite (stamp_held g.me.0.held)) Done g after
      × LeavesWhatWritten g.me after.me

  -- the guard's mode was released to an optimistic stamp, which stands for x, the last value
  pub record ReleasesTo (stamp : ℕ) (x : T) (g h : ValueToken T) : Type 0 where
    pub made : Calls (ToOptimistic (stamp_held g.me.0.held)) (Stamp stamp) g h
    pub some : stamp ≢ 0
    pub of_stamp : IsOfStamp h.lock.limits h.me.0.values stamp x
    pub last : IsOfLast h.lock.limits h.me.0.values stamp
