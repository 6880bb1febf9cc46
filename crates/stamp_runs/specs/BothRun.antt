-- The runs of a lock and of the record that it guards, side by side, from the opening on: no event of the lock so far,
-- the content at first, and all lanes idle. A content is told by its number, as one word; that at first is 0.
use Rattle.std.specs.Prelude.{ℕ, List, [], ◌∷◌}
use Rattle.stamp_core.specs.LockEvent.{LockEvent}
use Rattle.stamp_core.specs.Limits.{Bounds}
use Rattle.stamp_core.specs.Call.{is_lock_call}
use Rattle.stamp_core.specs.Content.{zeros}
use Rattle.stamp_runs.specs.declared.event.Event.{Event}
use Rattle.stamp_runs.specs.Object.{LockStep, Object, RecordStep}
use Rattle.stamp_runs.specs.Pairs.{Pair}
use Rattle.stamp_runs.specs.Run.{AreExplainedFrom, AreStuckFrom}

-- the events of the lock, and the content of the record
abbrev pub State : Type 0
State = List LockEvent × List ℕ

abbrev pub Both : Bounds → Object State
Both limits = Pair is_lock_call (LockStep limits) RecordStep

abbrev pub start : State
start = ([], 0 ∷ [])

-- the run up to here is explained: some configuration is possible
abbrev pub AreExplained : Bounds → List Event → Type 0
AreExplained limits events = AreExplainedFrom (Both limits) start events

-- the run is explained until this event, and no longer
abbrev pub AreStuckAt : Bounds → List Event → ℕ → Type 0
AreStuckAt limits events k = AreStuckFrom (Both limits) start events k

-- so it is of a run in words, where the record has this width and holds zeros at first
abbrev pub AreExplainedAt : Bounds → ℕ → List Event → Type 0
AreExplainedAt limits width events = AreExplainedFrom (Both limits) ([], zeros width) events

abbrev pub AreStuckIn : Bounds → ℕ → List Event → ℕ → Type 0
AreStuckIn limits width events k = AreStuckFrom (Both limits) ([], zeros width) events k
