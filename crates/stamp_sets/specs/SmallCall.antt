-- The calls and replies of lock and record that small ones tell: a content is its number, as one word.
use Rattle.std.specs.Prelude.{[], ◌∷◌}
use Rattle.stamp_core.specs.LockCall.{call_as}
use Rattle.stamp_core.specs.LockDecision.{reply_as}
use Rattle.stamp_core.specs.declared.call.Call.{Call}
use Rattle.stamp_core.specs.declared.call.Call.TheVariants as any
use Rattle.stamp_core.specs.declared.reply.Reply.{Reply}
use Rattle.stamp_core.specs.declared.reply.Reply.TheVariants as given
use Rattle.stamp_sets.specs.declared.small_call.SmallCall.{SmallCall}
use Rattle.stamp_sets.specs.declared.small_call.SmallCall.TheVariants.{OfLock, Get, Put, PutIf}
use Rattle.stamp_sets.specs.declared.small_call.SmallReply.{SmallReply}
use Rattle.stamp_sets.specs.declared.small_call.SmallReply.TheVariants as small

abbrev pub call_of : SmallCall → Call
call_of (OfLock call) = call_as call
call_of Get = any.Get
call_of (Put number) = any.Put (number ∷ [])
call_of (PutIf expected number) = any.PutIf (expected ∷ []) (number ∷ [])

abbrev pub reply_of : SmallReply → Reply
reply_of (small.OfLock reply) = reply_as reply
reply_of (small.Content number) = given.Content (number ∷ [])
