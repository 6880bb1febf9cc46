-- What is counted while a script is run.
use Rattle.std.specs.Prelude.{ℕ, ◌≡◌, ◌≤◌, ◌+◌, ◌-◌, ◌==◌, Option, Some, None, length, map, List}
use Rattle.std.specs.Prelude.{[], ◌∷◌, ◌++◌, slice_set, slice_index_or, if◌then◌else◌}
use Rattle.stamp_machines.specs.Script.{Scripted}
use Rattle.stamp_machines.specs.World.{execution_of, finished_calls}
use Rattle.stamp_machines.specs.Interference.{own_since, changes_since, cost}
use Rattle.stamp_machines.specs.declared.state.Begun.{Begun}
use Rattle.stamp_machines.specs.declared.tally.Meter.{Meter}
use Rattle.stamp_machines.specs.declared.tally.Tally.{Tally}
use Rattle.stamp_machines.specs.declared.running.Stepped.{Stepped}
use Rattle.stamp_machines.specs.declared.running.Stepped.TheVariants.{Idle, Going, Ended}

pub record TallyState : Type 0 where
  pub changes : ℕ
  pub meters : List Meter
  pub report : List (ℕ × ℕ)

abbrev pub tally_of : Tally → TallyState
tally_of t = record { changes = t.changes; meters = t.meters.items; report = t.report.items }

abbrev pub idle_meter : Meter
idle_meter = record { steps = 0; not_others = 0 }

abbrev pub meter_at : List Meter → ℕ → Meter
meter_at meters thread = slice_index_or meters thread idle_meter

-- the changes that others do not count: those before the call, and its own
abbrev pub not_others_in : ℕ → Meter → ℕ
not_others_in changes m = if m.steps == 0 then changes else m.not_others

abbrev pub meter_after : ℕ → ℕ → Meter → Meter
meter_after changes change m = record { steps = m.steps + 1; not_others = not_others_in changes m + change }

abbrev pub tally_after : TallyState → ℕ → ℕ → Stepped → TallyState
tally_after s thread change Idle = s
tally_after s thread change Going =
    record {
      changes = s.changes + change;
      meters = slice_set s.meters thread
          (meter_after s.changes change (meter_at s.meters thread));
      report = s.report;
    }
tally_after s thread change (Ended e) =
    let m = meter_after s.changes change (meter_at s.meters thread) in
    record {
      changes = s.changes + change;
      meters = slice_set s.meters thread idle_meter;
      report = s.report ++ (m.steps, s.changes + change - m.not_others) ∷ [];
    }

-- the meter of a thread with this call under way, or with none
abbrev pub IsMetered : Scripted → List ℕ → ℕ → ℕ → Option Begun → Meter → Type 0
IsMetered script steps changes t None m = m ≡ idle_meter
IsMetered script steps changes t (Some b) m =
    (1 ≤ m.steps) × (m.steps ≡ own_since steps t b.first)
    × (m.not_others + changes_since script steps t b.first ≡ changes) × (b.first ≤ length steps)

-- the meters are those of the calls that have begun, and the report is the cost of the finished
-- ones
pub record IsTallied (script : Scripted) (steps : List ℕ) (s : TallyState) : Type 0 where
  pub meters : (t : ℕ) →
      IsMetered script steps s.changes t (slice_index_or (execution_of script steps).begun t None)
      (meter_at s.meters t)
  pub few : s.changes ≤ length steps
  pub threads : length s.meters ≡ length script.threads
  pub report : s.report ≡ map (cost script steps) (finished_calls script steps)
