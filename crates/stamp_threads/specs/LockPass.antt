-- What a pass of a running lock knows.
use Rattle.std.specs.Prelude.{◌≡◌, ℕ, Bool, List}
use mathlib.Core.List.{IsPrefix}
use Rattle.atomic_table.specs.Seated.{TableId}
use Rattle.stamp_core.specs.Limits.{Bounds}
use Rattle.stamp_core.specs.declared.call.Call.{Call}
use Rattle.stamp_core.specs.declared.reply.Reply.{Reply}
use Rattle.stamp_machines.specs.LockNumber.{RepresentsAt}
use Rattle.stamp_threads.specs.declared.pass_view.PassView.{PassView}
use Rattle.stamp_threads.specs.PassName.{AreRooted, HasGivenAll}
use Rattle.stamp_threads.specs.PassView as passes
use Rattle.stamp_threads.specs.PassView.{made_by, every, entering}
use Rattle.stamp_threads.specs.Seats as seats
use Rattle.stamp_threads.specs.LockLog.{LockLog, events_after, IsLegalLog}

abbrev pub LockPassView : Type 0
LockPassView = PassView (Call × Reply) (Unit {0})

-- a lock is seen as which one it is, its limits, and whether passes may enter
pub record LockView : Type 0 where
  pub table : TableId
  pub limits : Bounds
  pub enterable : Bool

-- a pass is seen as the lock that gave it, and what it knows
pub record LockToken : Type 0 where
  pub table : TableId
  pub view : LockPassView

abbrev pub first_pass : LockPassView
first_pass = passes.first_pass tt

abbrev pub first_of : List LockPassView → LockPassView
first_of vs = seats.first_of tt vs

-- what the pass knows is legal, its entries there are its own calls, and no entry has a name that it
-- may still give
pub record IsConsistentWith (limits : Bounds) (v : LockPassView) : Type 0 where
  pub legal : IsLegalLog limits v.known
  pub own : made_by every v.name v.known ≡ v.own
  pub given : HasGivenAll v.name v.splits v.known

-- a new lock, and its first pass, which has made no call
pub record IsNew (limits : Bounds) (enterable : Bool) (lock : LockView) (pass : LockToken) : Type 0 where
  pub has_limits : lock.limits ≡ limits
  pub opens : lock.enterable ≡ enterable
  pub table : pass.table ≡ lock.table
  pub view : pass.view ≡ first_pass
  pub consistent : IsConsistentWith limits pass.view

-- a legal history that begins with what the pass knows, and whose events this word represents
pub record LeavesWord (limits : Bounds) (v : LockPassView) (word : ℕ) (log : LockLog) : Type 0 where
  pub begins : IsPrefix v.known log
  pub legal : IsLegalLog limits log
  pub represents : RepresentsAt limits word (events_after limits log)

-- a pass that entered: its path is empty, it knows a legal history, which left the word that its load
-- found, and it has made no call. Its root is above those of all names there: no call has its name
pub record HasEntered (limits : Bounds) (v : LockPassView) : Type 0 where
  pub root : ℕ
  pub word : ℕ
  pub view : v ≡ entering root tt v.known word
  pub represents : RepresentsAt limits word (events_after limits v.known)
  pub new : AreRooted root v.known
  pub consistent : IsConsistentWith limits v
