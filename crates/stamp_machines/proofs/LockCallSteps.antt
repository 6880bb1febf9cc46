-- A lock phase makes the accesses that its call's transitions ask for.
use Rattle.std.proofs.Common.{◌≡◌, ◌≢◌, ℕ, Option, Some, refl, ◌∙◌, ap, subst, inl, inr}
use Rattle.std.specs.Prelude.{IsTrue}
use Rattle.stamp_core.specs.Limits.{Bounds, AreInRange}
use Rattle.stamp_core.specs.Word.{LockWord, word_at, IsAdmitted}
use Rattle.stamp_core.specs.Call.{is_lock_call}
use Rattle.stamp_core.specs.Decision.{Changes, Moves, Decides}
use Rattle.stamp_core.specs.CountedDecision.{decision}
use Rattle.stamp_core.specs.declared.call.Call.{Call}
use Rattle.stamp_core.specs.declared.reply.Reply.{Reply}
use Rattle.stamp_core.specs.declared.layout.Layout.{Layout}
use Rattle.stamp_core.specs.declared.decision.Decision.{Decision}
use Rattle.stamp_core.specs.declared.decision.Decision.TheVariants.{Answer, Change, Wait}
use Rattle.stamp_core.proofs.Deciding.{decisions_are_transitions, only_locking_waits}
use Rattle.stamp_machines.specs.LockPhase.{turn_on}
use Rattle.stamp_machines.specs.PhaseState.{PhaseState}
use Rattle.stamp_machines.specs.IsLockPhase.{Changing, IsChanging}
use Rattle.stamp_machines.specs.declared.access.Access.TheVariants.{Cas}
use Rattle.stamp_machines.specs.LockCallSteps.{Plans, Ends, PhaseLeads}

-- a word that a change leads to is of the limits' layout
pub by_number : (limits : Bounds) (old : LockWord) (call : Call) (new : LockWord) (reply : Reply) →
    Changes limits old call new reply → Changes limits old call (word_at limits new.bits) reply
by_number limits old call new reply changes = λ events represented.
    let m : Moves limits events call old new reply = changes events represented in
    let same : record { layout = new.layout; bits = new.bits } ≡ word_at limits new.bits =
    ap (λ (l : Layout). record { layout = l; bits = new.bits }) m.represented.layout in
    subst (λ (w : LockWord). Moves limits events call old w reply) same m

-- what the decision on a number says
pub decided : (limits : Bounds) (call : Call) (number : ℕ) (d : Decision) → AreInRange limits →
    decision limits number call ≡ d → Decides limits (word_at limits number) call d
decided limits call number d range is =
    subst (Decides limits (word_at limits number) call) is
    (decisions_are_transitions limits number call range)

-- it found another word
pub lost : (p : PhaseState) (found : ℕ) (d : Decision) → AreInRange p.limits →
    IsTrue (is_lock_call p.call) → IsAdmitted p.limits (word_at p.limits found) →
    p.seen ≢ Some found → Decides p.limits (word_at p.limits found) p.call d →
    PhaseLeads p found (turn_on found d)
lost p found (Answer reply) range lock a other says =
    record { won = λ won. absurd (other won); answered = λ n. says }
lost p found (Change new reply) range lock a other says =
    record {
      not_won = other;
      same = (refl, refl, refl);
      next = inl (
        refl,
        new.bits,
        reply,
        by_number p.limits (word_at p.limits found) p.call new reply says,
      );
    }
lost p found Wait range lock a other says =
    record {
      not_won = other;
      same = (refl, refl, refl);
      next = inr (
        refl,
        only_locking_waits p.limits a.events p.call lock
            (says a.events a.represented),
        says,
      );
    }

-- the exchange of a word that the call changes
pub plans-exchange : (p : PhaseState) (old : ℕ) (new : LockWord) (reply : Reply) →
    p.seen ≡ Some old → Decides p.limits (word_at p.limits old) p.call (Change new reply) →
    Plans p (Cas p.at old new.bits)
plans-exchange p old new reply seen says =
    (refl, seen, reply, by_number p.limits (word_at p.limits old) p.call new reply says)

-- it found the word that it saw
pub won : (p : PhaseState) (found : ℕ) (new : LockWord) (reply : Reply) → p.seen ≡ Some found →
    Decides p.limits (word_at p.limits found) p.call (Change new reply) → Ends p found reply
won p found new reply seen says =
    record {
      won = λ w. (
        new.bits,
        by_number p.limits (word_at p.limits found) p.call new reply says,
      );
      answered = λ n. absurd (n seen);
    }

-- a word that was seen is one on which the call does not wait
pub not_seen : (limits : Bounds) (call : Call) (seen : Option ℕ) (found : ℕ) →
    IsChanging limits call seen → Wait ≡ decision limits found call → seen ≢ Some found
not_seen limits call seen found changing waits = λ e.
    let k : Changing limits call found = rw e at changing in
    let no : Wait ≡ Change k.new k.reply = waits ∙ k.decided in
    cc
