-- What one object's part of a watch explains.
use Rattle.std.specs.Prelude.{ℕ, ◌++◌, List}
use Rattle.stamp_runs.specs.Run.{AreExplainedFrom}
use Rattle.stamp_runs.specs.declared.event.Event.{Event}
use Rattle.stamp_sets.specs.declared.half.Half.{Half}
use Rattle.stamp_sets.specs.Judged.{judged}
use Rattle.stamp_sets.specs.Told.{ComesAsTold, open_at}
use Rattle.stamp_sets.specs.Half.{KeepsRun}

-- so it does after some events
pub record KeepsSome (half : Half) : Type 0 where
  pub past : List Event
  pub last : ℕ
  pub keeps : KeepsRun past last half

-- the object explains these events
abbrev pub ExplainsIn : Half → List Event → Type 0
ExplainsIn half events = AreExplainedFrom (judged half.object).step (judged half.object).start events

-- it explains nothing that comes as was told
pub record ExplainsNone (past : List Event) (last : ℕ) (half : Half) : Type 0 where
  pub none : (future : List Event) → ComesAsTold (open_at half.table.items) last future →
      ¬ ExplainsIn half (past ++ future)
