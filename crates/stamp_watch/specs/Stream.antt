-- Events of a run in few bytes.
use Rattle.std.specs.Prelude.{◌≡◌, ◌<◌, true}
use Rattle.stamp_runs.specs.OneWord.{is_small_call, is_small_reply}
use Rattle.stamp_runs.specs.declared.event.Event.{Event}
use Rattle.stamp_runs.specs.declared.event.Event.TheVariants.{Begins, Returns, Withdraws}
use Rattle.stamp_sets.specs.SmallCall.{call_of, reply_of}
use Rattle.stamp_watch.specs.declared.stream_event.SmallEvent.{SmallEvent}
use Rattle.stamp_watch.specs.declared.stream_event.SmallEvent.TheVariants as small
use Rattle.stamp_sets.specs.declared.small_call.SmallCall.TheVariants as small_call
use Rattle.stamp_sets.specs.declared.small_call.SmallReply.TheVariants as small_reply
use Rattle.stamp_watch.specs.declared.stream_event.FewBytes.{FewBytes}
use Rattle.stamp_watch.specs.declared.stream_event.FewBytes.TheVariants as few

-- what few bytes tell
abbrev pub small_in : FewBytes → SmallEvent
small_in (few.BeginsOfLock lane call) = small.Begins lane (small_call.OfLock call)
small_in (few.BeginsGet lane) = small.Begins lane small_call.Get
small_in (few.BeginsPut lane number) = small.Begins lane (small_call.Put number)
small_in (few.BeginsPutIf lane expected number) = small.Begins lane (small_call.PutIf expected number)
small_in (few.ReturnsOfLock lane answer) = small.Returns lane (small_reply.OfLock answer)
small_in (few.ReturnsContent lane number) = small.Returns lane (small_reply.Content number)
small_in (few.Withdraws lane) = small.Withdraws lane

-- the event that these few bytes are
abbrev pub event_of : SmallEvent → Event
event_of (small.Begins lane call) = Begins lane (call_of call)
event_of (small.Returns lane reply) = Returns lane (reply_of reply)
event_of (small.Withdraws lane) = Withdraws lane

-- its lane is one of 256, and each content of its call or reply has one word
abbrev pub IsOfStream : Event → Type 0
IsOfStream (Begins lane call) = (lane < 256) × (is_small_call call ≡ true)
IsOfStream (Returns lane reply) = (lane < 256) × (is_small_reply reply ≡ true)
IsOfStream (Withdraws lane) = lane < 256
