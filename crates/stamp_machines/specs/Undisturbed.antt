-- A machine that nobody disturbs.
use Rattle.std.specs.Prelude.{ℕ, ◌≡◌, ◌≢◌, ◌<◌, List, ◌++◌, length, Some, None, zero, suc, IsTrue}
use Rattle.std.specs.Prelude.{slice_index}
use Rattle.stamp_core.specs.LockEvent.{LockEvent}
use Rattle.stamp_core.specs.Limits.{Bounds, AreInRange}
use Rattle.stamp_core.specs.Word.{Represents, word_at}
use Rattle.stamp_core.specs.Call.{is_lock_call}
use Rattle.stamp_core.specs.Transition.{Transition, transition}
use Rattle.stamp_core.specs.declared.call.Call.{Call}
use Rattle.stamp_machines.specs.declared.shape.Shape.{Shape}
use Rattle.stamp_machines.specs.declared.machine.Turn.{Turn}
use Rattle.stamp_machines.specs.declared.machine.Turn.TheVariants.{Going, Done}
use Rattle.stamp_machines.specs.Access.{words_after, found_by}
use Rattle.stamp_machines.specs.MachineState.{start}
use Rattle.stamp_machines.specs.Machine.{plan_of, after_access}

-- the words and the turn after this many accesses, or after fewer where it has ended
abbrev pub left_alone : ℕ → List ℕ → Turn → List ℕ × Turn
left_alone zero words turn = (words, turn)
left_alone (suc n) words (Done reply) = (words, Done reply)
left_alone (suc n) words (Going m) =
    left_alone n (words_after (plan_of m) words) (after_access m (found_by (plan_of m) words))

-- the call has ended with its transition's reply, and word 0 represents the events with those
-- appended
pub record HasEnded (limits : Bounds) (events : List LockEvent) (call : Call) (x : List ℕ
    × Turn) : Type 0 where
  pub taken : Transition
  pub taken_is : transition limits events call ≡ Some taken
  pub done : x.1 ≡ Done taken.reply
  pub represented : Represents limits (word_at limits (slice_index x.0 0))
      (events ++ taken.appended)

-- A call of the lock that has a transition ends within two accesses.
abbrev pub EndsWithinTwo : Type 0
EndsWithinTwo =
    (shape : Shape) (call : Call) (words : List ℕ) (events : List LockEvent) →
    AreInRange shape.limits → IsTrue (is_lock_call call) → 0 < length words →
    Represents shape.limits (word_at shape.limits (slice_index words 0)) events →
    transition shape.limits events call ≢ None →
    HasEnded shape.limits events call (left_alone 2 words (Going (start shape call)))
