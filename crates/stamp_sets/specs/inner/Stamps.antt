-- Replies that are stamps.
use Rattle.std.specs.Prelude.{ℕ, ◌==◌, Bool, false}
use Rattle.stamp_core.specs.declared.reply.Reply.{Reply}
use Rattle.stamp_core.specs.declared.reply.Reply.TheVariants.{Stamp}

-- the reply is this stamp
abbrev pub is_this_stamp : Reply → ℕ → Bool
is_this_stamp (Stamp s) stamp = s == stamp
is_this_stamp _ stamp = false
