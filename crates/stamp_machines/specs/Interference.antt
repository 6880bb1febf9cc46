-- What a finished call cost: its own steps, and the steps of others that changed the lock's word
-- meanwhile.
use Rattle.std.specs.Prelude.{ℕ, ◌≡◌, ◌≢◌, ◌+◌, ◌<◌, ◌≤◌, ◌==◌, ◌&&◌, not, Bool, List, [], ◌∷◌}
use Rattle.std.specs.Prelude.{length, take, drop, count_by, All, IsTrue, slice_index}
use Rattle.std.specs.Prelude.{slice_index_or, Some, None, if◌then◌else◌}
use Rattle.stamp_core.specs.Call.{is_lock_call}
use Rattle.stamp_core.specs.declared.call.Call.{Call}
use Rattle.stamp_core.specs.declared.call.Call.TheVariants.{WriteLock, ReadLock}
use Rattle.stamp_core.specs.declared.entry.Entry.{Entry}
use Rattle.stamp_machines.specs.Script.{Scripted, IsSound}
use Rattle.stamp_machines.specs.World.{World, step, execution_of, finished_calls}
use Rattle.stamp_machines.specs.declared.state.Begun.{Begun}

abbrev pub lock_word : World → ℕ
lock_word world = slice_index world.words 0

-- the thread that steps is another, and its step changes the lock's word
abbrev pub interferes : Scripted → ℕ → World → ℕ → Bool
interferes script thread world by =
    not (by == thread) && not (lock_word (step script world by) == lock_word world)

-- how many of these steps, made from this world on, are another thread's and change the lock's word
abbrev pub changes_by_others : Scripted → ℕ → World → List ℕ → ℕ
changes_by_others script thread world [] = 0
changes_by_others script thread world (by ∷ steps) =
    (if interferes script thread world by then 1 else 0)
    + changes_by_others script thread (step script world by) steps

-- a thread's steps from a position on, and the changes by others since
abbrev pub own_since : List ℕ → ℕ → ℕ → ℕ
own_since steps thread first = count_by (λ by. by == thread) (drop first steps)

abbrev pub changes_since : Scripted → List ℕ → ℕ → ℕ → ℕ
changes_since script steps thread first =
    changes_by_others script thread (execution_of script (take first steps)) (drop first steps)

-- the steps from the entry's first to its last
abbrev pub steps_during : List ℕ → Entry → List ℕ
steps_during steps e = drop e.first (take (e.last + 1) steps)

abbrev pub own_steps : List ℕ → Entry → ℕ
own_steps steps e = count_by (λ by. by == e.thread) (steps_during steps e)

abbrev pub interference : Scripted → List ℕ → Entry → ℕ
interference script steps e =
    changes_by_others script e.thread (execution_of script (take e.first steps)) (steps_during steps e)

-- both
abbrev pub cost : Scripted → List ℕ → Entry → ℕ × ℕ
cost script steps e = (own_steps steps e, interference script steps e)

-- a call of the lock other than the two that may wait
pub record NeverWaits (call : Call) : Type 0 where
  pub lock : IsTrue (is_lock_call call)
  pub no_write_lock : call ≢ WriteLock
  pub no_read_lock : call ≢ ReadLock

-- A call that never waits takes at most two steps, and one more for each such step of others.
abbrev pub StepsBoundedAlways : Type 0
StepsBoundedAlways =
    (script : Scripted) (steps : List ℕ) → IsSound script → length steps ≤ 1000000 →
    All (λ (e : Entry). NeverWaits e.call → own_steps steps e ≤ interference script steps e + 2)
    (finished_calls script steps)

-- One that is still under way has made fewer than this many, at every position.
abbrev pub UnderWayBoundedAlways : Type 0
UnderWayBoundedAlways =
    (script : Scripted) (steps : List ℕ) (thread : ℕ) (b : Begun) → IsSound script →
    length steps ≤ 1000000 →
    slice_index_or (execution_of script steps).begun thread None ≡ Some b →
    NeverWaits b.machine.call →
    own_since steps thread b.first < changes_since script steps thread b.first + 2
