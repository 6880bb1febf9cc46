-- What an access of a lock call under way leads to.
use Rattle.std.specs.Prelude.{ℕ, ◌<◌, ◌^◌, Option}
use Rattle.std.specs.declared.ops.ControlFlow.{ControlFlow}
use Rattle.std.specs.declared.ops.ControlFlow.TheVariants.{Continue, Break}
use Rattle.stamp_core.specs.Limits.{Bounds}
use Rattle.stamp_core.specs.Decision.{stamp_in}
use Rattle.stamp_core.specs.declared.call.Call.{Call}
use Rattle.stamp_core.specs.declared.reply.Reply.{Reply}
use Rattle.stamp_machines.specs.LockPhase.{PhaseTurn, Going, Done}
use Rattle.stamp_machines.specs.IsLockPhase.{IsChanging}

-- it goes on with this word, or with none, or has ended with this reply
abbrev pub phase_turn : ControlFlow (Unit {0}) (Option ℕ) → Reply → PhaseTurn
phase_turn (Continue seen) reply = Going seen
phase_turn (Break _) reply = Done reply

-- it goes on with such a word, or the stamp that it ended with is below 2^63
abbrev pub IsPhaseTurn : Bounds → Call → PhaseTurn → Type 0
IsPhaseTurn limits call (Going seen) = IsChanging limits call seen
IsPhaseTurn limits call (Done reply) = stamp_in reply < 2 ^ 63
