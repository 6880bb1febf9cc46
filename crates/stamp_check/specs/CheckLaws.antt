-- The laws of checks, over the definitions alone.
use Rattle.std.specs.Prelude.{ℕ, ◌≡◌, Result}
use Rattle.stamp_core.specs.Record.{Recorded}
use Rattle.stamp_core.specs.Linearized.{IsLinearized}
use Rattle.stamp_check.specs.declared.checking.Bad.{Bad}
use Rattle.stamp_check.specs.declared.checking.Why.{Why}
use Rattle.stamp_check.specs.FirstFault.{IsFirstFault}
use Rattle.stamp_check.specs.Judgement.{IsJudgement}

-- What has a fault is not linearized.
abbrev pub FaultsAreExact : Type 0
FaultsAreExact = (r : Recorded) (i : ℕ) (why : Why) → IsFirstFault r i why → ¬ IsLinearized r

-- Of each recorded history there is one judgement at most.
abbrev pub OneVerdict : Type 0
OneVerdict = (r : Recorded) (a b : Result ℕ Bad) → IsJudgement r a → IsJudgement r b → a ≡ b
