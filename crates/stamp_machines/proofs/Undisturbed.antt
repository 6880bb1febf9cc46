-- A lock call that nobody disturbs ends within two accesses.
use Rattle.std.proofs.Common.{◌≡◌, ◌≢◌, ℕ, ◌==◌, true, List, [], ◌∷◌, Some, None, refl, arith}
use Rattle.std.proofs.lemmas.List.{append-nil}
use Rattle.stamp_core.specs.LockEvent.{LockEvent}
use Rattle.stamp_core.specs.Word.{LockWord, Represents, word_at}
use Rattle.stamp_core.specs.Transition.{transition}
use Rattle.stamp_core.specs.Decision.{Decides, Moves}
use Rattle.stamp_core.specs.CountedDecision.{decision}
use Rattle.stamp_core.specs.declared.call.Call.{Call}
use Rattle.stamp_core.specs.declared.decision.Decision.{Decision}
use Rattle.stamp_core.specs.declared.decision.Decision.TheVariants.{Answer, Change, Wait}
use Rattle.stamp_machines.specs.declared.shape.Shape.{Shape}
use Rattle.stamp_machines.specs.declared.machine.Turn.TheVariants.{Going}
use Rattle.stamp_machines.specs.LockPhase.{turn_on}
use Rattle.stamp_machines.specs.MachineState.{MachineState, OnLock}
use Rattle.stamp_machines.specs.Machine.{lock_turn}
use Rattle.stamp_machines.specs.Undisturbed.{left_alone, HasEnded, EndsWithinTwo}
use Rattle.stamp_machines.proofs.LockCallSteps.{by_number, decided}
use Rattle.stamp_machines.proofs.TwoKindsOfCall.{lock_none}

first : Shape → Call → MachineState
first shape call = record { shape = shape; call = call; stage = OnLock None }

seeing : Shape → Call → ℕ → MachineState
seeing shape call w = record { shape = shape; call = call; stage = OnLock (Some w) }

-- the exchange finds the word that was loaded
wins : (shape : Shape) (call : Call) (w : ℕ) (rest : List ℕ) (events : List LockEvent)
    (new : LockWord) (r : Rattle.stamp_core.specs.declared.reply.Reply.Reply) →
    decision shape.limits w call ≡ Change new r →
    Moves shape.limits events call (word_at shape.limits w) (word_at shape.limits new.bits) r →
    HasEnded shape.limits events call
    (left_alone 1 (w ∷ rest) (Going (record { shape = shape; call = call; stage = OnLock (Some w) })))
wins shape call w rest events new r is moves =
    let itself : (w == w) ≡ true = grind arith in
    rw (is, itself) (record {
      taken = record { appended = moves.appended; reply = r };
      taken_is = moves.transition_is;
      done = refl;
      represented = moves.represented;
    })

by_decision : (shape : Shape) (call : Call) (w : ℕ) (rest : List ℕ) (events : List LockEvent)
    (d : Decision) → decision shape.limits w call ≡ d →
    Decides shape.limits (word_at shape.limits w) call d →
    Represents shape.limits (word_at shape.limits w) events →
    transition shape.limits events call ≢ None →
    HasEnded shape.limits events call (left_alone 1 (w ∷ rest) (lock_turn shape call (turn_on w d)))
by_decision shape call w rest events (Answer r) is says represented some = record {
  taken = record { appended = []; reply = r };
  taken_is = says events represented;
  done = refl;
  represented = rw (append-nil events) represented;
}
by_decision shape call w rest events (Change new r) is says represented some =
    wins shape call w rest events new r is
    (by_number shape.limits (word_at shape.limits w) call new r says events represented)
by_decision shape call w rest events Wait is says represented some =
    absurd (some (says events represented))

pub ends_within_two : EndsWithinTwo
ends_within_two shape call [] events range lock within represented some =
    absurd (omega (arith, within))
ends_within_two shape call (w ∷ rest) events range lock within represented some =
    rw (lock_none call lock)
    (by_decision shape call w rest events (decision shape.limits w call) refl
    (decided shape.limits call w _ range refl) represented some)
