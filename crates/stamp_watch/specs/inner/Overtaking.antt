-- Which ends of calls tell a content.
use Rattle.std.specs.Prelude.{ℕ, ◌≡◌, Bool, true, false, Option, Some, None}
use Rattle.std.specs.Int.{bit_at}
use Rattle.stamp_core.specs.declared.reply.Reply.{Reply}
use Rattle.stamp_runs.specs.Renaming.{is_not_no}
use Rattle.stamp_watch.specs.declared.overtaking.Overtaking.{Overtaking}
use Rattle.stamp_watch.specs.declared.overtaking.Stage.TheVariants as stage

-- a call that ends by this reply may tell the content, and none that is withdrawn
abbrev pub may_tell_by : Option Reply → Bool
may_tell_by None = false
may_tell_by (Some reply) = is_not_no reply

-- the content is to be told, and is by the call of this lane, which began in the stage, if it ends so
abbrev pub IsToldBy : Overtaking → ℕ → Bool → Type 0
IsToldBy o lane tells = (tells ≡ true) × (bit_at o.newer lane ≡ 1) × (o.stage ≡ stage.Untold)
