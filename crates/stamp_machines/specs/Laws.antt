-- What holds of every schedule.
use Rattle.std.specs.Prelude.{ℕ, ◌≡◌, ◌≢◌, ◌<◌, ◌≤◌, ◌+◌, ◌↔◌, List, [], ◌∷◌, ◌++◌, Some, length}
use Rattle.std.specs.Prelude.{slice_index, All}
use Rattle.stamp_core.specs.Word.{Represents, word_at}
use Rattle.stamp_core.specs.History.{IsLegal, events_of, content_after}
use Rattle.stamp_core.specs.Linearized.{history_of, AreLinearized}
use Rattle.stamp_core.specs.Limits.{units}
use Rattle.stamp_core.specs.Laws.{NoneAcquiresWrite}
use Rattle.stamp_core.specs.declared.entry.Entry.{Entry}
use Rattle.stamp_core.specs.declared.call.Call.TheVariants.{Validate, Get}
use Rattle.stamp_core.specs.declared.reply.Reply.{Reply}
use Rattle.stamp_core.specs.declared.reply.Reply.TheVariants.{Stamp, Yes, Content}
use Rattle.stamp_machines.specs.declared.access.Access.TheVariants.{Cas}
use Rattle.stamp_machines.specs.declared.state.Begun.{Begun}
use Rattle.stamp_machines.specs.Job.{Job}
use Rattle.stamp_machines.specs.RecordStage.{Releasing}
use Rattle.stamp_machines.specs.MachineState.{OnRecord}
use Rattle.stamp_machines.specs.Machine.{plan_of}
use Rattle.stamp_machines.specs.Script.{Scripted, IsSound}
use Rattle.stamp_machines.specs.World.{execution_of, finished_calls, current}

-- The finished calls are a legal history of lock and record, with exactly the replies given.
abbrev pub LegalAlways : Type 0
LegalAlways =
    (script : Scripted) (steps : List ℕ) → IsSound script → length steps ≤ 1000000 →
    IsLegal script.limits script.width (history_of (finished_calls script steps))

-- Word 0 represents the events of that history.
abbrev pub RepresentedAlways : Type 0
RepresentedAlways =
    (script : Scripted) (steps : List ℕ) → IsSound script → length steps ≤ 1000000 →
    Represents script.limits (word_at script.limits (slice_index (execution_of script steps).words 0))
    (events_of script.limits (history_of (finished_calls script steps)))

-- The finished calls are linearized by their last steps: these lie in their intervals and rise, and
-- the calls of a thread do not overlap.
abbrev pub LinearizedAlways : Type 0
LinearizedAlways =
    (script : Scripted) (steps : List ℕ) → IsSound script → length steps ≤ 1000000 →
    AreLinearized script.limits script.width (finished_calls script steps)
    × All (λ (e : Entry). e.point ≡ e.last) (finished_calls script steps)

-- A stamp that a finished call answered is validated by a later one exactly where no call between
-- them acquired write mode.
abbrev pub StampsValidateAlways : Type 0
StampsValidateAlways =
    (script : Scripted) (steps : List ℕ) (before between after : List Entry) (issue check : Entry)
    (s : ℕ) → IsSound script → length steps ≤ 1000000 →
    finished_calls script steps ≡ before ++ issue ∷ between ++ check ∷ after →
    issue.reply ≡ Stamp s → s ≢ 0 → check.call ≡ Validate s →
    (check.reply ≡ Yes)
    ↔ NoneAcquiresWrite script.limits (events_of script.limits (history_of (before ++ issue ∷ [])))
    (history_of between)

-- A get answers the content that the calls finished before it leave: words that the record held
-- together.
abbrev pub GetsAnswerContentAlways : Type 0
GetsAnswerContentAlways =
    (script : Scripted) (steps : List ℕ) (before after : List Entry) (get : Entry) → IsSound script →
    length steps ≤ 1000000 →
    finished_calls script steps ≡ before ++ get ∷ after → get.call ≡ Get →
    get.reply ≡ Content (content_after script.width (history_of before))

-- The exchange by which a call of the record releases its write lock finds what it expects.
abbrev pub ReleasesWinAlways : Type 0
ReleasesWinAlways =
    (script : Scripted) (steps : List ℕ) (thread : ℕ) (b : Begun) (job : Job) (stamp : ℕ)
    (r : Reply) → IsSound script → length steps < 1000000 →
    current script (execution_of script steps) thread ≡ Some b →
    b.machine.stage ≡ OnRecord job (Releasing stamp r) →
    (plan_of b.machine ≡ Cas 1 stamp (stamp + (units script.limits).writer))
    × (slice_index (execution_of script steps).words 1 ≡ stamp)
