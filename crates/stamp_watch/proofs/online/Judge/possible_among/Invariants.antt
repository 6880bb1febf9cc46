use Rattle.std.proofs.Common.{List}
use Rattle.std.specs.Prelude.{map, take}
use Rattle.stamp_core.specs.Limits.{Bounds}
use Rattle.stamp_sets.specs.SmallCall.{reply_of}
use Rattle.stamp_explain.proofs.Choosing.{AreChosen}
use Rattle.stamp_runs.specs.declared.event.Event.{Event}
use Rattle.stamp_watch.specs.Possible.{IsPossibleReply, KeepsBase}
use Rattle.stamp_watch.proofs.online.Judge.possible_among.Given as goal

abbrev pub invariant-loop-k : goal.invariant-loop-k
invariant-loop-k l = (limits : Bounds) (run : List Event) → KeepsBase limits run l.self →
    AreChosen (IsPossibleReply limits run l.number) (map reply_of (take l.k l.replies)) l.found.items
