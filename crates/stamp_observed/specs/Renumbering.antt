-- Stamps renumbered: the first so many versions of the lock are left out.
use Rattle.std.specs.Prelude.{ℕ, ◌*◌, ◌-◌, nat_lt, if◌then◌else◌}
use Rattle.stamp_core.specs.Layout.{Units}
use Rattle.stamp_core.specs.declared.call.Call.{Call}
use Rattle.stamp_core.specs.declared.call.Call.TheVariants.{Validate, UnlockWrite, UnlockRead}
use Rattle.stamp_core.specs.declared.call.Call.TheVariants.{Unlock, ToWrite, ToRead, ToOptimistic}
use Rattle.stamp_core.specs.declared.reply.Reply.{Reply}
use Rattle.stamp_core.specs.declared.reply.Reply.TheVariants.{Stamp}

-- the stamp of the same kind and count with k versions less; 0 where its version is left out. A number below all
-- stamps stays
abbrev pub renumbered_stamp : Units → ℕ → ℕ → ℕ
renumbered_stamp u k s =
    if nat_lt s u.version then s
    else if nat_lt (s - u.version) (k * u.version) then 0
    else s - k * u.version

-- the call with its stamp renumbered
abbrev pub renumbered_call : Units → ℕ → Call → Call
renumbered_call u k (Validate s) = Validate (renumbered_stamp u k s)
renumbered_call u k (UnlockWrite s) = UnlockWrite (renumbered_stamp u k s)
renumbered_call u k (UnlockRead s) = UnlockRead (renumbered_stamp u k s)
renumbered_call u k (Unlock s) = Unlock (renumbered_stamp u k s)
renumbered_call u k (ToWrite s) = ToWrite (renumbered_stamp u k s)
renumbered_call u k (ToRead s) = ToRead (renumbered_stamp u k s)
renumbered_call u k (ToOptimistic s) = ToOptimistic (renumbered_stamp u k s)
renumbered_call u k call = call

-- the reply with its stamp renumbered
abbrev pub renumbered_reply : Units → ℕ → Reply → Reply
renumbered_reply u k (Stamp s) = Stamp (renumbered_stamp u k s)
renumbered_reply u k reply = reply
