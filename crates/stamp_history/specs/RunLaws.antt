-- The law of runs that are judged.
use Rattle.std.specs.Prelude.{ℕ, ◌≡◌, ◌≤◌, length, Result, Ok}
use Rattle.stamp_machines.specs.Script.{Scripted, IsSound}
use Rattle.stamp_machines.specs.RecordedRun.{recorded_run, reported_run}
use Rattle.stamp_machines.specs.World.{finished_calls}
use Rattle.stamp_check.specs.declared.checking.Bad.{Bad}
use Rattle.stamp_check.specs.Judgement.{IsJudgement}

-- The judgement of what a script is run to, with or without its report, is the number of its finished calls.
abbrev pub RunsAreAccepted : Type 0
RunsAreAccepted =
    (script : Scripted) → IsSound script → length script.steps ≤ 1000000 →
    let accepted = Ok (length (finished_calls script script.steps)) in
    ((a : Result ℕ Bad) → IsJudgement (recorded_run script) a → a ≡ accepted) ×
    ((a : Result ℕ Bad) → IsJudgement (reported_run script) a → a ≡ accepted)
