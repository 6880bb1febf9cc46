-- What is explained up to a return.
use Rattle.std.specs.Prelude.{ℕ, Option}
use Rattle.stamp_core.specs.declared.reply.Reply.{Reply}
use Rattle.stamp_explain.specs.Explained.{IsExplained}
use Rattle.stamp_explain.specs.Observed.{ObservedHistory}
use Rattle.stamp_explain.specs.Possible.{IsSeenUntil}

-- what is seen when the call of this entry has returned, with this reply or with none, is explained
abbrev pub IsExplainedUntil : ObservedHistory → ℕ → Option Reply → Type 0
IsExplainedUntil h i reply = (seen : ObservedHistory) → IsSeenUntil h i reply seen → IsExplained seen
