-- What is recorded of a run, with its report.
use Rattle.std.specs.Prelude.{◌≡◌, ℕ, List, All}
use Rattle.stamp_core.specs.declared.entry.Entry.{Entry}
use Rattle.stamp_core.specs.Linearized.{IsLinearized}
use Rattle.stamp_core.specs.Record.{Recorded, recorded}
use Rattle.stamp_machines.specs.RunView.{RunView}
use Rattle.stamp_machines.specs.World.{finished_calls}

-- the finished calls of a run, with this report; each takes effect at its last step
pub record IsRecordedRun (run : RunView) (report : List (ℕ × ℕ)) (r : Recorded) : Type 0 where
  pub calls : r
      ≡ recorded run.script.limits run.script.width (finished_calls run.script run.steps) report
  pub linearized : IsLinearized r
  pub points : All (λ (e : Entry). e.point ≡ e.last) r.entries
