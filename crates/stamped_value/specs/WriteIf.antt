-- Sections in write mode where a test holds.
use Rattle.std.specs.Prelude.{◌≡◌, ◌⊎◌, ℕ, Bool, true, false, Option, Some, None, Result, Ok, Err}
use Rattle.stamp_core.specs.declared.call.Call.TheVariants.{WriteLock, ToWrite, UnlockRead}
use Rattle.stamp_core.specs.declared.reply.Reply.TheVariants.{Stamp, Done}
use Rattle.stamped_value.specs.declared.spent.Spent.{Spent}
use Rattle.stamped_value.specs.ValueLock.{ValueToken}
use Rattle.stamped_value.specs.ValueCalls.{Calls}
use Rattle.stamped_value.specs.Sections.{BeginsReading, EndsWriting, ReadSection, WriteSection}

module _ {T : Type 0} where
  -- the test held in read mode, which was converted to write mode; there the closure wrote the value that was tested
  pub record UpgradeSection (Test : T → Type 0) (Write : T → T → Type 0) (a b : ValueToken T) : Type 0 where
    pub reading : ℕ
    pub reader : ValueToken T
    pub tested : BeginsReading Test reading a reader
    pub writing : ℕ
    pub writer : ValueToken T
    pub upgraded : Calls (ToWrite reading) (Stamp writing) reader writer
    pub ends : EndsWriting Write writing writer b
    pub same : ends.found ≡ tested.value

  -- read mode couldn't be converted, and was released
  pub record GivesUpReading (stamp : ℕ) (reader b : ValueToken T) : Type 0 where
    pub refused : ValueToken T
    pub asked : Calls (ToWrite stamp) (Stamp 0) reader refused
    pub released : Calls (UnlockRead stamp) Done refused b

  -- and so the test was asked in vain, which held
  pub record NotUpgraded (Test : T → Type 0) (a b : ValueToken T) : Type 0 where
    pub reading : ℕ
    pub reader : ValueToken T
    pub tested : BeginsReading Test reading a reader
    pub gives_up : GivesUpReading reading reader b

module _ {T A : Type 0} (Test : Bool → T → Type 0) (Write : A → T → T → Type 0) where
  -- in write mode the test was asked first: where it didn't hold, the value was left as it was found
  abbrev pub WriteWhere : Result (Option A) Spent → ValueToken T → ValueToken T → Type 0
  WriteWhere (Ok (Some r)) a b = WriteSection (λ x y. Test true x × Write r x y) a b
  WriteWhere (Ok None) a b = WriteSection (λ x y. Test false x × (y ≡ x)) a b
  WriteWhere (Err _) a b = Calls WriteLock (Stamp 0) a b

  -- the test didn't hold in read mode; or it held, and the reader wrote at once, by an upgrade
  abbrev pub WriteAtOnce : Result (Option A) Spent → ValueToken T → ValueToken T → Type 0
  WriteAtOnce (Ok (Some r)) a b = UpgradeSection (Test true) (Write r) a b
  WriteAtOnce (Ok None) a b = ReadSection (Test false) a b
  WriteAtOnce (Err _) a b = ⊥

  -- it was done so at once, or in write mode, for which it waited
  abbrev pub WriteIfSection : Result (Option A) Spent → ValueToken T → ValueToken T → Type 0
  WriteIfSection r a b = WriteAtOnce r a b ⊎
      ((between : ValueToken T) × NotUpgraded (Test true) a between × WriteWhere r between b)
