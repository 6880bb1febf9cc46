-- What a step answers.
use Rattle.std.specs.Prelude.{◌≡◌, ℕ, [], ◌∷◌, ◌++◌, IsSome, None}
use Rattle.stamp_machines.specs.Script.{Scripted}
use Rattle.stamp_machines.specs.World.{World, current, step}
use Rattle.stamp_machines.specs.declared.running.Stepped.{Stepped}
use Rattle.stamp_machines.specs.declared.running.Stepped.TheVariants.{Idle, Going, Ended}

-- idle where the thread has no call left, ended with the entry that was appended, and else going
abbrev pub AnswersStep : Scripted → World → ℕ → Stepped → Type 0
AnswersStep script world thread Idle = current script world thread ≡ None
AnswersStep script world thread Going =
    IsSome (current script world thread) × ((step script world thread).entries ≡ world.entries)
AnswersStep script world thread (Ended e) = (step script world thread).entries ≡ world.entries ++ e ∷ []
