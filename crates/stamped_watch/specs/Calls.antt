-- The calls of a run along its events, as an observer tells them.
use Rattle.std.specs.Prelude.{ℕ, ◌≡◌, ◌+◌, ◌++◌, List, [], Option, Some, None, fold, map, filter_map}
use Rattle.std.specs.Prelude.{option_map, option_and_then, option_to_list, slice_get, slice_set, unwrap_or}
use Rattle.std.specs.List.{range_with_len}
use Rattle.stamp_core.specs.declared.call.Call.{Call}
use Rattle.stamp_core.specs.declared.reply.Reply.{Reply}
use Rattle.stamp_explain.specs.declared.observed.Observation.{Observation}
use Rattle.stamp_explain.specs.declared.observed.Returned.{Returned}
use Rattle.stamp_runs.specs.Names.{Names, call_by, reply_by}
use Rattle.stamp_runs.specs.declared.event.Event.{Event}
use Rattle.stamp_runs.specs.declared.event.Event.TheVariants.{Begins, Returns, Withdraws}
use Rattle.stamp_watch.specs.declared.ended_call.EndedCall.{EndedCall}
use Rattle.stamped_watch.specs.declared.begun.Begun.{Begun}
use Rattle.stamped_watch.specs.declared.begun.Calls.{Calls}

-- what is told once some events came: of each lane its open call, the calls that have returned, and how many events
-- there were. A call that was withdrawn isn't told
pub record Told : Type 0 where
  pub lanes : List (Option Begun)
  pub returned : List Observation
  pub events : ℕ

abbrev pub begun : ℕ → Call → Begun
begun first call = record { call = call; first = first }

abbrev pub return : ℕ → Reply → Returned
return last reply = record { last = last; reply = reply }

-- a call of this lane that began so; it is under way, if it has no return
abbrev pub observed : ℕ → Option Returned → Begun → Observation
observed lane end call = record { thread = lane; call = call.call; first = call.first; returned = end }

-- the open call of a lane
abbrev pub open_in : List (Option Begun) → ℕ → Option Begun
open_in lanes lane = option_and_then (λ (call : Option Begun). call) (slice_get lanes lane)

-- the lane's open call as one that returned
abbrev pub returned_in : List (Option Begun) → ℕ → Returned → List Observation
returned_in lanes lane end = option_to_list (option_map (observed lane (Some end)) (open_in lanes lane))

-- with one event more, which is told by its number: the first has 1
abbrev pub told_with : Told → Event → Told
told_with told (Begins lane call) = record {
  lanes = slice_set told.lanes lane (Some (begun (told.events + 1) call));
  returned = told.returned;
  events = told.events + 1;
}
told_with told (Returns lane reply) = record {
  lanes = slice_set told.lanes lane None;
  returned = told.returned ++ returned_in told.lanes lane (return (told.events + 1) reply);
  events = told.events + 1;
}
told_with told (Withdraws lane) = record {
  lanes = slice_set told.lanes lane None;
  returned = told.returned;
  events = told.events + 1;
}

-- before all events, where these calls are open in the 64 lanes
abbrev pub told_first : (ℕ → Option Call) → Told
told_first waiting = record {
  lanes = map (λ lane. option_map (begun 0) (waiting lane)) (range_with_len 0 64);
  returned = [];
  events = 0;
}

abbrev pub told_along : (ℕ → Option Call) → List Event → Told
told_along waiting events = fold told_with (told_first waiting) events

-- the open calls, as calls under way
abbrev pub under_way : List (Option Begun) → List Observation
under_way lanes = filter_map (λ lane. option_map (observed lane None) (open_in lanes lane)) (range_with_len 0 64)

-- all that is told, but the open call of one lane
abbrev pub told_beside : ℕ → Told → List Observation
told_beside lane told = told.returned ++ under_way (slice_set told.lanes lane None)

-- where the open call of a lane began; 0 if it has none
abbrev pub first_in : ℕ → Told → ℕ
first_in lane told = unwrap_or (option_map (λ (call : Begun). call.first) (open_in told.lanes lane)) 0

-- the call that ended, which began there
abbrev pub ended_call : EndedCall → ℕ → Returned → Observation
ended_call ended first end = record { thread = ended.lane; call = ended.call; first = first; returned = Some end }

-- so it is where it ended with this reply at the next event
abbrev pub told_end : EndedCall → Reply → Told → Observation
told_end ended reply told = ended_call ended (first_in ended.lane told) (return (told.events + 1) reply)

-- the calls that are kept are what is told
pub record IsTold (calls : Calls) (told : Told) : Type 0 where
  pub lanes_are : calls.lanes.items ≡ told.lanes
  pub returned_are : calls.returned.items ≡ told.returned

-- an observed call whose contents go by these names
abbrev pub return_by : Names → Returned → Returned
return_by names end = record { last = end.last; reply = reply_by names end.reply }

abbrev pub observation_by : Names → Observation → Observation
observation_by names e = record {
  thread = e.thread;
  call = call_by names e.call;
  first = e.first;
  returned = option_map (return_by names) e.returned;
}
