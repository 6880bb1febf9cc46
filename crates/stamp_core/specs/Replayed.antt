-- What calls give that are taken one after the other from the opening.
use Rattle.std.specs.Prelude.{ℕ, ◌≡◌, List, length, take, slice_get, Some, None, Result, Ok, Err}
use Rattle.std.specs.List.{zip}
use Rattle.stamp_core.specs.Limits.{Bounds}
use Rattle.stamp_core.specs.Word.{LockWord, Represents}
use Rattle.stamp_core.specs.Transition.{transition}
use Rattle.stamp_core.specs.History.{IsLegal, events_of}
use Rattle.stamp_core.specs.declared.call.Call.{Call}
use Rattle.stamp_core.specs.declared.reply.Reply.{Reply}
use Rattle.stamp_core.specs.declared.replayed.Replayed.{Replayed}
use Rattle.stamp_core.specs.declared.replayed.ReplayError.{ReplayError}
use Rattle.stamp_core.specs.declared.replayed.ReplayError.TheVariants.{Waits, Memory}

-- the calls with their replies are a legal history, whose events the word represents
pub record IsReplayed (limits : Bounds) (calls : List Call) (replies : List Reply) (word : LockWord) : Type 0 where
  pub each : length replies ≡ length calls
  pub legal : IsLegal limits 0 (zip calls replies)
  pub represented : Represents limits word (events_of limits (zip calls replies))

-- the calls before call i have replies with which they are a legal history, and after it call i has no transition
pub record WaitsAt (limits : Bounds) (calls : List Call) (i : ℕ) : Type 0 where
  pub call : Call
  pub is_call : slice_get calls i ≡ Some call
  pub replies : List Reply
  pub each : length replies ≡ i
  pub legal : IsLegal limits 0 (zip (take i calls) replies)
  pub waits : transition limits (events_of limits (zip (take i calls) replies)) call ≡ None

-- memory aside, what was replayed or the call that waits
abbrev pub Replays : Bounds → List Call → Result Replayed ReplayError → Type 0
Replays limits calls (Ok x) = IsReplayed limits calls x.replies.items x.word
Replays limits calls (Err (Waits i)) = WaitsAt limits calls i
Replays limits calls (Err Memory) = Unit {0}
