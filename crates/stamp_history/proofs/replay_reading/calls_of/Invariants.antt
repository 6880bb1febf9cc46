use Rattle.std.proofs.Common.{◌≡◌, map, take}
use Rattle.std.specs.Prelude.{IsTrue}
use Rattle.std.specs.List.{All}
use Rattle.stamp_core.specs.Call.{is_lock_call}
use Rattle.stamp_core.specs.LockCall.{call_as}
use Rattle.stamp_history.proofs.replay_reading.calls_of.Given as goal

abbrev pub invariant-loop-call : goal.invariant-loop-call
invariant-loop-call l = record {
  calls : l.calls.items ≡ map call_as (take l.call-index l.lock_calls);
  lock : All (λ call. IsTrue (is_lock_call call)) l.calls.items;
}
