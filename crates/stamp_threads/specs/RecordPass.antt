-- What a pass of a running record knows.
use Rattle.std.specs.Prelude.{◌≡◌, ℕ, Bool, ◌+◌, ◌≤◌, List}
use mathlib.Core.List.{IsPrefix}
use Rattle.atomic_table.specs.Seated.{TableId}
use Rattle.stamp_threads.specs.declared.pass_view.PassView.{PassView}
use Rattle.stamp_threads.specs.declared.record_view.RecordShape.{RecordShape}
use Rattle.stamp_threads.specs.declared.record_view.RecordEvent.{RecordEvent}
use Rattle.stamp_threads.specs.declared.record_view.RecordPhase.{RecordPhase}
use Rattle.stamp_threads.specs.declared.record_view.RecordPhase.TheVariants.{Idle, Writing}
use Rattle.stamp_threads.specs.PassName.{AreRooted, HasGivenAll}
use Rattle.stamp_threads.specs.PassView as passes
use Rattle.stamp_threads.specs.PassView.{made_by, entering}
use Rattle.stamp_threads.specs.Seats as seats
use Rattle.stamp_threads.specs.RecordLog.{RecordLog, IsLegalLog, is_call, marks_of, puts_in, puts}
use Rattle.stamp_threads.specs.RecordLog.{word_after}

abbrev pub RecordPassView : Type 0
RecordPassView = PassView RecordEvent RecordPhase

-- a record is seen as which one it is, its shape, and whether passes may enter
pub record RecordView : Type 0 where
  pub table : TableId
  pub shape : RecordShape
  pub enterable : Bool

-- a pass is seen as the record that gave it, and what it knows
pub record RecordToken : Type 0 where
  pub table : TableId
  pub view : RecordPassView

abbrev pub first_pass : RecordPassView
first_pass = passes.first_pass Idle

abbrev pub first_of : List RecordPassView → RecordPassView
first_of vs = seats.first_of Idle vs

-- a pass that is writing has a mark whose put has yet to come
abbrev pub marks_ahead : RecordPhase → ℕ
marks_ahead (Writing puts_before words stored) = 1
marks_ahead _ = 0

-- what the pass knows is legal, its calls there are its own, it has as many marks there as puts, and
-- no entry has a name that it may still give
pub record IsConsistentWith (width : ℕ) (v : RecordPassView) : Type 0 where
  pub legal : IsLegalLog width v.known
  pub own : made_by is_call v.name v.known ≡ v.own
  pub marks : marks_of v.name v.known ≡ puts_in v.own + marks_ahead v.phase
  pub given : HasGivenAll v.name v.splits v.known

-- so it is with the width of the record that gave the pass: its table has a word more
abbrev pub IsConsistentIn : TableId → RecordPassView → Type 0
IsConsistentIn table v = (width : ℕ) → table.words ≡ width + 1 → IsConsistentWith width v

-- a legal history that begins with what the pass knows, and leaves this lock word
pub record LeavesWord (shape : RecordShape) (v : RecordPassView) (word : ℕ) (log : RecordLog) :
    Type 0 where
  pub begins : IsPrefix v.known log
  pub legal : IsLegalLog shape.width log
  pub word_is : word ≡ word_after shape.limits.layout log
  pub few : puts log ≤ shape.limits.versions

-- a pass that entered: its path is empty, it knows a legal history, which left the lock word that its
-- load found, and it has made no call. Its root is above those of all names there: no call has its name
pub record HasEntered (shape : RecordShape) (v : RecordPassView) : Type 0 where
  pub root : ℕ
  pub word : ℕ
  pub view : v ≡ entering root Idle v.known word
  pub word_is : word ≡ word_after shape.limits.layout v.known
  pub few : puts v.known ≤ shape.limits.versions
  pub new : AreRooted root v.known
  pub consistent : IsConsistentWith shape.width v
