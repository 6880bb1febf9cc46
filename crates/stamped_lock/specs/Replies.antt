-- Typed answers as replies.
use Rattle.std.specs.Prelude.{ℕ, Bool, true, false, Option, Result, Ok, Err}
use Rattle.stamp_core.specs.declared.reply.Reply.{Reply}
use Rattle.stamp_core.specs.declared.reply.Reply.TheVariants.{Stamp, Yes, No, Done, Mismatch}
use Rattle.stamp_threads.specs.MayReply.{stamp_or_zero}

-- the reply of a call that answers a stamp
abbrev pub stamped : Option ℕ → Reply
stamped s = Stamp (stamp_or_zero s)

-- the reply of a test
abbrev pub tested : Bool → Reply
tested true = Yes
tested false = No

-- the reply of a release
abbrev pub released : {E : Type 0} → Result (Unit {0}) E → Reply
released (Ok _) = Done
released (Err _) = Mismatch
