-- A lock call under way: a load, and then exchanges until one wins or the word found decides the
-- call.
use Rattle.std.specs.Prelude.{ℕ, ◌==◌, Option, Some, None, if◌then◌else◌}
use Rattle.stamp_core.specs.Limits.{Bounds}
use Rattle.stamp_core.specs.CountedDecision.{decision}
use Rattle.stamp_core.specs.declared.call.Call.{Call}
use Rattle.stamp_core.specs.declared.reply.Reply.{Reply}
use Rattle.stamp_core.specs.declared.decision.Decision.{Decision}
use Rattle.stamp_core.specs.declared.decision.Decision.TheVariants.{Answer, Change, Wait}
use Rattle.stamp_machines.specs.LocalAccess.{LocalAccess, LoadLock, CasLock}

-- it goes on with the word that it decided to change, or with none, which is to be loaded; or it
-- has ended
pub data PhaseTurn : Type 0 where
  Going : Option ℕ → PhaseTurn
  Done : Reply → PhaseTurn

abbrev pub plan_on : ℕ → Decision → LocalAccess
plan_on word (Answer reply) = LoadLock
plan_on word (Change new reply) = CasLock word new.bits
plan_on word Wait = LoadLock

-- its plan, which is its next access
abbrev pub phase_plan : Bounds → Call → Option ℕ → LocalAccess
phase_plan limits call None = LoadLock
phase_plan limits call (Some word) = plan_on word (decision limits word call)

-- its turn by the decision on this word, which it found
abbrev pub turn_on : ℕ → Decision → PhaseTurn
turn_on word (Answer reply) = Done reply
turn_on word (Change new reply) = Going (Some word)
turn_on word Wait = Going None

abbrev pub tried : Bounds → Call → ℕ → ℕ → Decision → PhaseTurn
tried limits call old found (Answer reply) = turn_on found (decision limits found call)
tried limits call old found (Change new reply) =
    if found == old then Done reply else turn_on found (decision limits found call)
tried limits call old found Wait = turn_on found (decision limits found call)

-- where it is after an access has found this word
abbrev pub phase_after : Bounds → Call → Option ℕ → ℕ → PhaseTurn
phase_after limits call None found = turn_on found (decision limits found call)
phase_after limits call (Some old) found = tried limits call old found (decision limits old call)
