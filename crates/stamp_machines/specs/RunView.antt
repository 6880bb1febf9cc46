-- A run: its script, and the steps that it has made.
use Rattle.std.specs.Prelude.{◌≡◌, ℕ, List, [], ◌∷◌, ◌++◌, length}
use Rattle.stamp_machines.specs.Script.{Scripted}

pub record RunView : Type 0 where
  pub script : Scripted
  pub steps : List ℕ

-- after one more step, of this thread
abbrev pub with_step : RunView → ℕ → RunView
with_step r thread = record r { steps = r.steps ++ thread ∷ [] }

-- it has made as many steps as a run may
abbrev pub HasNoStepLeft : RunView → Type 0
HasNoStepLeft r = length r.steps ≡ 1000000
