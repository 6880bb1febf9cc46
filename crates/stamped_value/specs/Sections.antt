-- Sections: what a closure does to the value, between two calls of the lock.
use Rattle.std.specs.Prelude.{◌≡◌, ℕ}
use Rattle.lent_table.specs.Table.{reads, writes}
use Rattle.stamp_core.specs.declared.call.Call.TheVariants.{WriteLock, ReadLock, UnlockWrite, UnlockRead}
use Rattle.stamp_core.specs.declared.reply.Reply.TheVariants.{Stamp, Done}
use Rattle.stamped_value.specs.Values.{IsLastOf}
use Rattle.stamped_value.specs.ValueLock.{ValueToken, token_with}
use Rattle.stamped_value.specs.ValueCalls.{Calls}
use Rattle.stamped_value.specs.OfStamp.{IsOfStamp}

module _ {T : Type 0} where
  -- read mode was acquired by this stamp, and the closure read the last value
  pub record BeginsReading (Read : T → Type 0) (stamp : ℕ) (a reader : ValueToken T) : Type 0 where
    pub acquired : Calls ReadLock (Stamp stamp) a reader
    pub value : T
    pub has : reader.me.1 ≡ reads value
    pub last : IsLastOf reader.me.0.values value
    pub read : Read value

  -- the lock was read by a stamp, the closure read the last value, and read mode was released by the stamp
  pub record ReadSection (Read : T → Type 0) (a b : ValueToken T) : Type 0 where
    pub stamp : ℕ
    pub reader : ValueToken T
    pub begins : BeginsReading Read stamp a reader
    pub released : Calls (UnlockRead stamp) Done reader b

  -- such a section, by this stamp, which stands for the value that the closure read
  abbrev pub ReadsByStamp : (T → Type 0) → ℕ → ValueToken T → ValueToken T → Type 0
  ReadsByStamp Read s a b = (section : ReadSection Read a b) × (section.stamp ≡ s)
      × IsOfStamp a.lock.limits b.me.0.values s section.begins.value

  -- the closure made another value of the last one, which is the last one now, and write mode was released by this
  -- stamp
  pub record EndsWriting (Write : T → T → Type 0) (stamp : ℕ) (writer b : ValueToken T) : Type 0 where
    pub found : T
    pub has : writer.me.1 ≡ writes found
    pub last : IsLastOf writer.me.0.values found
    pub left : T
    pub written : Write found left
    pub released : Calls (UnlockWrite stamp) Done (token_with writer left) b
    pub leaves : IsLastOf b.me.0.values left

  -- the lock was written by a stamp: the closure wrote the last value, and write mode was released by the stamp
  pub record WriteSection (Write : T → T → Type 0) (a b : ValueToken T) : Type 0 where
    pub stamp : ℕ
    pub writer : ValueToken T
    pub acquired : Calls WriteLock (Stamp stamp) a writer
    pub ends : EndsWriting Write stamp writer b
