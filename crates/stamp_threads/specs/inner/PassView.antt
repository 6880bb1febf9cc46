-- What a pass becomes by a step.
use Rattle.std.specs.Prelude.{ℕ, List, [], ◌∷◌, ◌++◌}
use Rattle.stamp_threads.specs.declared.pass_view.LogEntry.{LogEntry}
use Rattle.stamp_threads.specs.declared.pass_view.PassView.{PassView}
use Rattle.stamp_threads.specs.PassView.{entry}

module _ {E P : Type 0} where
  -- the pass that knows the whole history
  abbrev pub knowing : PassView E P → List (LogEntry E) → PassView E P
  knowing v log = record v { known = log }

  -- the pass after it added an entry of its own to the whole history
  abbrev pub adding : PassView E P → List (LogEntry E) → E → PassView E P
  adding v log made =
      record v { known = log ++ entry v.name made ∷ []; own = v.own ++ made ∷ [] }

  -- the pass after one more access of the lock word, which found this
  abbrev pub finding : PassView E P → ℕ → PassView E P
  finding v word = record v { found = v.found ++ word ∷ [] }
