-- What a call of an observed history has for being the value of a program.
use Rattle.std.specs.Prelude.{MatchOption}
use Rattle.stamp_core.specs.Record.{HasFewWords}
use Rattle.stamp_explain.specs.declared.observed.Observation.{Observation}
use Rattle.stamp_explain.specs.declared.observed.Returned.{Returned}
use Rattle.stamp_history.specs.HistoryLaws.{CallIsU64, ReplyIsU64}

-- the numbers of a reply have 64 bits, and words are 1 to 16
pub record ReturnIsProgramValue (r : Returned) : Type 0 where
  pub numbers : ReplyIsU64 r.reply
  pub words : HasFewWords r.reply

pub record ObservationIsProgramValue (e : Observation) : Type 0 where
  pub call : CallIsU64 e.call
  pub returned : MatchOption e.returned (Unit {0}) ReturnIsProgramValue
