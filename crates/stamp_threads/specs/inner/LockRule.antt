-- The rule of the running word, and what each step of it tells.
use Rattle.std.specs.Prelude.{◌≡◌, ℕ, ◌==◌, MatchBool, List, [], ◌∷◌, length, slice_index, Option}
use Rattle.std.specs.Prelude.{Some, None, Bool, false}
use Rattle.atomic_table.specs.Table.{State, Step}
use Rattle.stamp_core.specs.Limits.{Bounds}
use Rattle.stamp_core.specs.LockEvent.{LockEvent}
use Rattle.stamp_core.specs.Transition.{Transition}
use Rattle.stamp_core.specs.declared.call.Call.{Call}
use Rattle.stamp_core.specs.declared.reply.Reply.{Reply}
use Rattle.stamp_machines.specs.LockNumber.{RepresentsAt}
use Rattle.stamp_threads.specs.PassView.{IsPart, every}
use Rattle.stamp_threads.specs.inner.PassView.{knowing, adding, finding}
use Rattle.stamp_threads.specs.Seats.{alone}
use Rattle.stamp_threads.specs.inner.Seats.{AreSeated, both}
use Rattle.stamp_threads.specs.LockLog.{LockLog, events_after, transition_after, IsLegalLog}
use Rattle.stamp_threads.specs.LockPass.{LockPassView, IsConsistentWith, LeavesWord, first_of, HasEntered}
use Rattle.stamp_threads.specs.inner.LockPass.{Seated, second_of}
use Rattle.stamp_threads.specs.LockPassesMet.{LockPassesMet}

-- there is one legal history, whose events the word represents; each pass that stands knows a part
-- of it, and their names are apart. Where passes may not enter, the first root is the only one
pub record IsKept (enterable : Bool) (limits : Bounds) (s : State (Unit {0}) (List LockPassView)) : Type 0 where
  pub log : LockLog
  pub roots : ℕ
  pub one_root : enterable ≡ false → roots ≡ 1
  pub one_word : length s.words ≡ 1
  pub legal : IsLegalLog limits log
  pub represents : RepresentsAt limits (slice_index s.words 0) (events_after limits log)
  pub passes : AreSeated (IsPart every log) roots log s.views

-- the pass after the call's transition: the call is made where there is one
abbrev pub making : Option Transition → Call → LockPassView → LockLog → LockPassView
making None call v log = knowing v log
making (Some t) call v log = adding v log (call, t.reply)

abbrev pub after_win : Bounds → Call → LockPassView → LockLog → LockPassView
after_win limits call v log = making (transition_after limits log call) call v log

-- a call whose transition appends nothing is made, and no other
abbrev pub answering : List LockEvent → Reply → Call → LockPassView → LockLog → LockPassView
answering [] reply call v log = adding v log (call, reply)
answering (event ∷ appended) reply call v log = knowing v log

abbrev pub reading : Option Transition → Call → LockPassView → LockLog → LockPassView
reading None call v log = knowing v log
reading (Some t) call v log = answering t.appended t.reply call v log

-- the pass after it has found the word
abbrev pub after_load : Bounds → Call → LockPassView → LockLog → LockPassView
after_load limits call v log = reading (transition_after limits log call) call v log

-- v is the pass before a step that has found this word. It has come to know the whole history by the
-- step, and w is the pass that comes of it
pub record CameToKnow (limits : Bounds) (v : LockPassView) (found : ℕ) (after_it : LockLog → LockPassView)
    (w : LockPassView) : Type 0 where
  pub log : LockLog
  pub left : LeavesWord limits v found log
  pub after : w ≡ after_it log
  pub consistent : IsConsistentWith limits w

module _ (limits : Bounds) (call : Call) (v : LockPassView) (found : ℕ) (w : LockPassView) where
  abbrev pub Loaded : Type 0
  Loaded = CameToKnow limits v found (after_load limits call (finding v found)) w

  abbrev pub Won : Type 0
  Won = CameToKnow limits v found (after_win limits call (finding v found)) w

-- by an exchange that finds another word than the old one, a pass learns what it would by a load
abbrev pub Exchanged : Bounds → Call → ℕ → LockPassView → ℕ → LockPassView → Type 0
Exchanged limits call old v found w = MatchBool (found == old) (Won limits call v found w)
    (Loaded limits call v found w)

-- what the seat of one pass knows after a load
abbrev pub LoadTells : Bounds → Call → Step (Unit {0}) → Seated → ℕ → Seated → Type 0
LoadTells limits call st m found n = (n ≡ alone (first_of n.0)) ×
    Loaded limits call (first_of m.0) found (first_of n.0)

abbrev pub ExchangeTells : Bounds → Call → Step (Unit {0}) → Seated → ℕ → Seated → Type 0
ExchangeTells limits call st m found n =
    (n ≡ alone (first_of n.0)) × Exchanged limits call st.first (first_of m.0) found (first_of n.0)

-- and the seat of two passes: both know the whole history
abbrev pub MeetTells : Bounds → Step (Unit {0}) → Seated → ℕ → Seated → Type 0
MeetTells limits st m found n = (n ≡ both (first_of n.0) (second_of n.0)) ×
    LockPassesMet limits (first_of m.0) (second_of m.0) (first_of n.0) (second_of n.0)

-- and a seat that is made by a load
abbrev pub EnterTells : Bounds → Step (Unit {0}) → Seated → ℕ → Seated → Type 0
EnterTells limits st m found n = (n ≡ alone (first_of n.0)) × HasEntered limits (first_of n.0)
