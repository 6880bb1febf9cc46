-- What a check of a recorded history answers.
use Rattle.std.specs.Prelude.{ℕ, ◌≡◌, length, Result, Ok, Err}
use Rattle.stamp_core.specs.Record.{Recorded}
use Rattle.stamp_core.specs.Linearized.{IsLinearized}
use Rattle.stamp_check.specs.declared.checking.Bad.{Bad}
use Rattle.stamp_check.specs.FirstFault.{IsFirstFault}

-- the number of the entries, which are linearized; or their first fault
abbrev pub IsJudgement : Recorded → Result ℕ Bad → Type 0
IsJudgement r (Ok n) = IsLinearized r × (n ≡ length r.entries)
IsJudgement r (Err bad) = IsFirstFault r bad.entry bad.why
