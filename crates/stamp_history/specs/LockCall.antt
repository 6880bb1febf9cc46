-- The lock's calls as JSON: those of a history that are the lock's.
use Rattle.std.specs.Prelude.{Option, Some, None, option_and_then, if◌then◌else◌}
use Rattle.serde_json.specs.Data.{Data}
use Rattle.stamp_core.specs.Call.{is_lock_call}
use Rattle.stamp_core.specs.declared.call.Call.{Call}
use Rattle.stamp_history.specs.HistoryCall.{history_call}

-- the call, if it is the lock's
abbrev pub if_of_lock : Call → Option Call
if_of_lock call = if is_lock_call call then Some call else None

abbrev pub lock_call : Data → Option Call
lock_call d = option_and_then if_of_lock (history_call d)
