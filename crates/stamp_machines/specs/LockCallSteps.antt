-- What the accesses of a lock call are, whatever events the word represents. Who makes them outside
-- a schedule needs nothing else.
use Rattle.std.specs.Prelude.{ℕ, ◌≡◌, ◌≢◌, ◌⊎◌, Option, Some, None}
use Rattle.stamp_core.specs.Limits.{Bounds}
use Rattle.stamp_core.specs.Word.{word_at}
use Rattle.stamp_core.specs.Decision.{Answers, Changes, HasNone}
use Rattle.stamp_core.specs.declared.call.Call.{Call}
use Rattle.stamp_core.specs.declared.call.Call.TheVariants.{WriteLock, ReadLock}
use Rattle.stamp_core.specs.declared.reply.Reply.{Reply}
use Rattle.stamp_machines.specs.LockPhase as phases
use Rattle.stamp_machines.specs.LockPhase.{PhaseTurn}
use Rattle.stamp_machines.specs.PhaseState.{PhaseState}
use Rattle.stamp_machines.specs.MachineState.{MachineState, Stage, OnLock, OnRecord}
use Rattle.stamp_machines.specs.declared.access.Access.{Access}
use Rattle.stamp_machines.specs.declared.access.Access.TheVariants.{Load, Cas, Store}
use Rattle.stamp_machines.specs.declared.machine.Turn.{Turn}
use Rattle.stamp_machines.specs.declared.machine.Turn.TheVariants.{Going, Done}

-- the call of this phase changes the word of the first number to that of the second, with this
-- reply
abbrev pub ChangesTo : PhaseState → ℕ → ℕ → Reply → Type 0
ChangesTo p old new reply = Changes p.limits (word_at p.limits old) p.call (word_at p.limits new) reply

-- a load where no word is to be changed, and else an exchange of the word seen for the one that the
-- call changes it to
abbrev pub Plans : PhaseState → Access → Type 0
Plans p (Load i) = (i ≡ p.at) × (p.seen ≡ None)
Plans p (Cas i old new) = (i ≡ p.at) × (p.seen ≡ Some old) × (reply : Reply) × ChangesTo p old new reply
Plans p (Store i value) = ⊥

-- it has ended: its exchange found the word that it saw, or the word found answers the call
pub record Ends (p : PhaseState) (found : ℕ) (reply : Reply) : Type 0 where
  pub won : p.seen ≡ Some found → (new : ℕ) × ChangesTo p found new reply
  pub answered : p.seen ≢ Some found → Answers p.limits (word_at p.limits found) p.call reply

-- it goes on: to change the word found, or to load again since a call that may wait has no
-- transition on it
pub record Goes (p : PhaseState) (found : ℕ) (q : PhaseState) : Type 0 where
  pub not_won : p.seen ≢ Some found
  pub same : (q.at ≡ p.at) × (q.limits ≡ p.limits) × (q.call ≡ p.call)
  pub next : ((q.seen ≡ Some found) × (new : ℕ) × (reply : Reply) × ChangesTo p found new reply)
      ⊎ ((q.seen ≡ None) × ((p.call ≡ WriteLock) ⊎ (p.call ≡ ReadLock))
      × HasNone p.limits (word_at p.limits found) p.call)

-- what comes of finding this word: the turn of the phase
abbrev pub PhaseLeads : PhaseState → ℕ → PhaseTurn → Type 0
PhaseLeads p found (phases.Going seen) = Goes p found (record p { seen = seen })
PhaseLeads p found (phases.Done reply) = Ends p found reply

-- where a call of the lock is, which has word 0
abbrev pub on_lock : Bounds → Call → Option ℕ → PhaseState
on_lock limits call seen = record { at = 0; limits = limits; call = call; seen = seen }

abbrev pub seen_in : Stage → Option ℕ
seen_in (OnLock seen) = seen
seen_in (OnRecord job stage) = None

-- the lock phase that the machine of a lock call is: on word 0
abbrev pub lock_phase : MachineState → PhaseState
lock_phase m = record { at = 0; limits = m.shape.limits; call = m.call; seen = seen_in m.stage }

-- what comes of finding this word: the turn of the machine
abbrev pub LockCallLeads : PhaseState → ℕ → Turn → Type 0
LockCallLeads p found (Going m) = Goes p found (lock_phase m)
LockCallLeads p found (Done reply) = Ends p found reply
