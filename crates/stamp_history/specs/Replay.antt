-- The replay that a text is, or the first fault in the order of the fields.
use Rattle.std.specs.Prelude.{ℕ, Vec, List, Result, Ok}
use Rattle.std.specs.declared.alloc.Global.{Global}
use Rattle.serde_json.specs.Data.{Data}
use Rattle.stamp_core.specs.Limits.{Bounds}
use Rattle.stamp_core.specs.declared.call.Call.{Call}
use Rattle.stamp_history.specs.declared.read_error.ReadError.{ReadError}
use Rattle.stamp_history.specs.declared.text_kind.TextKind.TheVariants as text
use Rattle.stamp_history.specs.JsonReading.{◌>>=◌, json_of}
use Rattle.stamp_history.specs.LimitFields.{limits}
use Rattle.stamp_history.specs.ReplayFields.{top, calls}

-- calls to be taken one after the other, under limits
pub record Replay : Type 0 where
  pub limits : Bounds
  pub calls : List Call

unfoldable pub replay_in : Data → Result Replay ReadError
replay_in d = do
  _ ← top d
  found_limits ← limits text.Replay d
  found_calls ← calls d
  Ok (record { limits = found_limits; calls = found_calls })

unfoldable pub replay_of : List ℕ → Result Replay ReadError
replay_of bytes = do
  d ← json_of bytes
  replay_in d

-- what was read, without where it lies in memory
abbrev pub replay_view : Bounds × Vec Call Global → Replay
replay_view found = record { limits = found.0; calls = found.1.items }
