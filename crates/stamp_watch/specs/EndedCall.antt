-- The calls that end at events of a run.
use Rattle.std.specs.Prelude.{ℕ, ◌≡◌, ◌+◌, ◌-◌, ◌==◌, List, length, take, slice_get, Option, Some, None}
use Rattle.std.specs.Prelude.{if◌then◌else◌, nat_le, option_map, option_and_then}
use Rattle.std.specs.List.{fold}
use Rattle.stamp_core.specs.declared.call.Call.{Call}
use Rattle.stamp_core.specs.declared.reply.Reply.{Reply}
use Rattle.stamp_runs.specs.declared.event.Event.{Event}
use Rattle.stamp_runs.specs.declared.event.Event.TheVariants.{Begins, Returns, Withdraws}
use Rattle.stamp_watch.specs.declared.ended_call.EndedCall.{EndedCall}
use Rattle.stamp_watch.specs.Late.{EndsBehind}

-- the last call of this lane once the event came
abbrev pub begun_then : ℕ → Option Call → Event → Option Call
begun_then lane last (Begins other call) = if other == lane then Some call else last
begun_then lane last (Returns other reply) = last
begun_then lane last (Withdraws other) = last

-- the last call that begins in this lane among these events
abbrev pub begun_in : ℕ → List Event → Option Call
begun_in lane events = fold (begun_then lane) None events

abbrev pub ended : ℕ → Option Reply → Call → EndedCall
ended lane reply call = record { lane = lane; call = call; reply = reply }

-- the call that the event ends, if it began among those before it: the last one of its lane
abbrev pub ended_by : Event → List Event → Option EndedCall
ended_by (Begins lane call) before = None
ended_by (Returns lane reply) before = option_map (ended lane (Some reply)) (begun_in lane before)
ended_by (Withdraws lane) before = option_map (ended lane None) (begun_in lane before)

-- the call that the event at this place ends
abbrev pub ended_at : List Event → ℕ → Option EndedCall
ended_at events place = option_and_then (λ (e : Event). ended_by e (take place events)) (slice_get events place)

-- so it is with the event of this number, of which the first has the other
abbrev pub ended_from : ℕ → List Event → ℕ → Option EndedCall
ended_from first events number = if nat_le first number then ended_at events (number - first) else None

-- the event by which a call of the lane ends with this reply; with none it is withdrawn
abbrev pub end_in : ℕ → Option Reply → Event
end_in lane (Some reply) = Returns lane reply
end_in lane None = Withdraws lane

-- the event with this number ends this call of the run: that begins in its lane, and no event of the lane is between
pub record IsEndedAt (run : List Event) (k : ℕ) (ended : EndedCall) : Type 0 where
  pub began : ℕ
  pub between : List Event
  pub number : k ≡ began + 1 + length between
  pub ends : EndsBehind run began (Begins ended.lane ended.call) between (end_in ended.lane ended.reply)
