-- Which recorded histories are judged alike.
use Rattle.std.specs.Prelude.{ℕ, ◌↔◌, Result}
use Rattle.stamp_core.specs.Record.{Recorded}
use Rattle.stamp_check.specs.declared.checking.Bad.{Bad}
use Rattle.stamp_check.specs.Judgement.{IsJudgement}

-- the judgement of the one is that of the other, whichever it is
abbrev pub HaveSameJudgement : Recorded → Recorded → Type 0
HaveSameJudgement r s = (judgement : Result ℕ Bad) → IsJudgement r judgement ↔ IsJudgement s judgement
