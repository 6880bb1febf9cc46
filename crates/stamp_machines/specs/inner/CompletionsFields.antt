-- What a step makes of the finished calls that are to come.
use Rattle.std.specs.Prelude.{◌≡◌, ℕ, ◌+◌, []}
use Rattle.stamp_machines.specs.Completing.{after_next}
use Rattle.stamp_machines.specs.Script.{Scripted}
use Rattle.stamp_machines.specs.declared.state.RunState.{RunState}
use Rattle.stamp_machines.specs.declared.state.StepKind.{StepKind}
use Rattle.stamp_machines.specs.declared.state.StepKind.TheVariants.{Idle, Going, Ended}
use Rattle.stamp_machines.specs.CompletionsFields.{calls_after, completing_at, IsAfter}

-- what is to come after a step of this kind
abbrev pub HandsOn : Scripted → RunState → ℕ → StepKind → Type 0
HandsOn script s made Ended =
    completing_at script s (made + 1) ≡ after_next (completing_at script s made)
HandsOn script s made Idle =
    (s.entries.items ≡ []) × (calls_after script (made + 1) ≡ calls_after script made)
HandsOn script s made Going =
    (s.entries.items ≡ []) × (calls_after script (made + 1) ≡ calls_after script made)

pub record StepMade (script : Scripted) (s : RunState) (made : ℕ) (p : StepKind) : Type 0 where
  pub after : IsAfter script s (made + 1)
  pub hands_on : HandsOn script s made p
