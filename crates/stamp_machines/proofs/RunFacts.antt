-- What a run keeps to, after a step.
use Rattle.std.proofs.Common.{◌≡◌, ℕ, ◌+◌, ◌<◌, List, [], ◌∷◌, ◌++◌, length, sym, ◌∙◌, ap, subst}
use Rattle.std.proofs.Common.{arith, inr}
use Rattle.std.specs.Prelude.{slice_index}
use Rattle.std.proofs.Common.{get_or}
use Rattle.std.proofs.lemmas.List.{length-append}
use Rattle.stamp_core.specs.declared.entry.Entry.{Entry}
use Rattle.stamp_machines.specs.declared.state.RunState.{RunState}
use Rattle.stamp_machines.specs.declared.running.Run.TheInside.{Inside}
use Rattle.stamp_machines.specs.Script.{Scripted}
use Rattle.stamp_machines.specs.World.{World, step, execution_of, finished_calls}
use Rattle.stamp_machines.specs.StateFields.{world_at}
use Rattle.stamp_machines.specs.inner.StateFields.{SameState}
use Rattle.stamp_core.specs.Word.{Represents, IsAdmitted, word_at}
use Rattle.stamp_core.specs.History.{events_of}
use Rattle.stamp_core.specs.Linearized.{history_of}
use Rattle.stamp_machines.specs.inner.Invariant.{Invariant, events_in}
use Rattle.stamp_machines.specs.RunFields.{run_view_of, IsAt}
use Rattle.stamp_machines.specs.inner.RecordedRun.{IsRecordedRun}
use Rattle.stamp_core.specs.Record.{Recorded, recorded, IsRecorded}
use Rattle.stamp_machines.proofs.StepsKeep.{always-kept, execution_of-more}
use Rattle.stamp_machines.proofs.EntryOrder.{InOrder, always-in-order}
use Rattle.stamp_machines.proofs.EntryCount.{finished-recorded}

pub run-kept : (r : Inside) → IsAt r →
    Invariant r.script.now (world_at [] r.state (length r.steps.items))
run-kept r h = rw h.world (always-kept r.script.now r.steps.items h.sound h.few)

same_world : (gone : List Entry) (old new : RunState) (n : ℕ) → SameState old new →
    world_at gone new n ≡ world_at gone old n
same_world gone old new n s = simp (s.words, s.begun, s.entries)

pub world-more : (script : Scripted) (old mid new : RunState) (steps steps' : List ℕ) (t : ℕ) →
    world_at [] old (length steps) ≡ execution_of script steps → SameState old mid →
    world_at [] new (length steps + 1) ≡ step script (world_at [] mid (length steps)) t →
    steps' ≡ steps ++ t ∷ [] → world_at [] new (length steps') ≡ execution_of script steps'
world-more script old mid new steps steps' t w s n e =
    rw (e, length-append) (n ∙ ap (λ x. step script x t) (same_world [] old mid (length steps) s ∙ w)
    ∙ sym (execution_of-more script steps t))

pub same-kept : (script : Scripted) (old mid : RunState) (n : ℕ) → SameState old mid →
    Invariant script (world_at [] old n) → Invariant script (world_at [] mid n)
same-kept script old mid n s k = rw (same_world [] old mid n s) k

pub run-words : (r : Inside) → IsAt r → 0 < length r.state.words.items
run-words r h = let k = run-kept r h in omega (arith, k.words)

pub run-in-order : (r : Inside) → IsAt r →
    InOrder r.script.now (world_at [] r.state (length r.steps.items))
run-in-order r h = rw h.world (always-in-order r.script.now r.steps.items h.sound h.few)

pub run-recorded : (r : Inside) → IsAt r →
    IsRecorded (record {
      limits = r.script.now.limits;
      width = r.script.now.width;
      entries = r.state.entries.items;
      report = [];
    })
run-recorded r h =
    let same : (execution_of r.script.now r.steps.items).entries ≡ r.state.entries.items =
    ap (λ (w : World). w.entries) (sym h.world) in
    rw (← same) (finished-recorded r.script.now r.steps.items h.sound)

pub run-reported : (r : Inside) → IsAt r → (report : List (ℕ × ℕ)) →
    length report ≡ length (finished_calls r.script.now r.steps.items) →
    IsRecorded (record {
      limits = r.script.now.limits;
      width = r.script.now.width;
      entries = r.state.entries.items;
      report = report;
    })
run-reported r h report each =
    let same : finished_calls r.script.now r.steps.items ≡ r.state.entries.items =
    ap (λ (w : World). w.entries) (sym h.world) in
    let known = run-recorded r h in
    record {
      width = known.width;
      entries = known.entries;
      report = inr (each ∙ ap length same);
      suit = known.suit;
    }

-- a record with its entries is that of the steps so far
pub record-of : (r : Inside) → IsAt r → (report : List (ℕ × ℕ)) → (made : Recorded) →
    made ≡ recorded r.script.now.limits r.script.now.width r.state.entries.items report →
    IsRecordedRun (run_view_of r) report made
record-of r h report made is =
    let order = run-in-order r h in
    record {
      calls =
          is ∙ ap (λ (w : World). recorded r.script.now.limits r.script.now.width w.entries report)
          h.world;
      linearized = rw is order.linearized;
      points = rw is order.points;
    }

-- the word as it stands represents what the steps so far have finished
pub run-represented : (r : Inside) → IsAt r →
    Represents r.script.now.limits (word_at r.script.now.limits (slice_index r.state.words.items 0))
    (events_of r.script.now.limits (history_of (finished_calls r.script.now r.steps.items)))
run-represented r h =
    subst (λ (w : World). Represents r.script.now.limits
    (word_at r.script.now.limits (slice_index r.state.words.items 0))
    (events_of r.script.now.limits (history_of w.entries))) h.world (run-kept r h).represented

pub run-admitted : (r : Inside) → IsAt r →
    IsAdmitted r.script.now.limits (word_at r.script.now.limits (slice_index r.state.words.items 0))
run-admitted r h =
    record {
      events = events_in r.script.now (world_at [] r.state (length r.steps.items));
      represented = (run-kept r h).represented;
    }

pub first-word : (xs : List ℕ) (r : ℕ) → 0 < length xs → r ≡ get_or xs 0 r → r ≡ slice_index xs 0
first-word [] r h e = absurd (omega arith)
first-word (x ∷ xs) r h e = e
