-- What a handle learns of the lock without a mode, by one load.
use Rattle.std.specs.Prelude.{◌≡◌, ◌≢◌, ℕ, Bool, [], ◌∷◌, IsTrue}
use mathlib.Core.List.{IsPrefix}
use Rattle.stamp_core.specs.declared.call.Call.TheVariants.{Optimistic, Validate}
use Rattle.stamp_core.specs.declared.reply.Reply.{Reply}
use Rattle.stamp_core.specs.declared.reply.Reply.TheVariants.{Stamp}
use Rattle.stamp_threads.specs.PassView.{HasFound}
use Rattle.stamped_value.specs.ValueLock.{ValueToken}
use Rattle.stamped_value.specs.ValueMade.{ValueMade}
use Rattle.stamped_value.specs.OfStamp.{IsOfLast, IsYesButForWriters}

module _ {T : Type 0} where
  -- the word was found once, and the handle knows all values that it knew
  pub record Asks (a b : ValueToken T) : Type 0 where
    pub lock : b.lock ≡ a.lock
    pub once : (word : ℕ) × HasFound a.me.0.pass (word ∷ []) b.me.0.pass
    pub begins : IsPrefix a.me.0.values b.me.0.values

  -- the lock was asked to validate the stamp, and where the result is yes the stamp's value is the last one
  pub record AsksIsLast (stamp : ℕ) (result : Bool) (a b : ValueToken T) : Type 0 where
    pub asks : Asks a b
    pub answer : (reply : Reply) × ValueMade b.lock.limits (Validate stamp) reply a.me b.me
        × IsYesButForWriters b.lock.limits stamp reply result
    pub last : IsTrue result → IsOfLast b.lock.limits b.me.0.values stamp

  -- the lock was asked for an optimistic stamp: where it isn't 0, its value is the last one
  pub record AsksStamp (stamp : ℕ) (a b : ValueToken T) : Type 0 where
    pub asks : Asks a b
    pub made : ValueMade b.lock.limits Optimistic (Stamp stamp) a.me b.me
    pub last : stamp ≢ 0 → IsOfLast b.lock.limits b.me.0.values stamp
