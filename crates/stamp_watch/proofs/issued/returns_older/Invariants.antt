use Rattle.std.proofs.Common.{ℕ, suc, ◌<◌, get_or}
use Rattle.std.specs.Prelude.{drop}
use Rattle.stamp_runs.specs.declared.event.Event.{Event}
use Rattle.stamp_watch.specs.Issued.{IssuesOlder}
use Rattle.stamp_watch.proofs.issued.returns_older.Given as goal

abbrev pub invariant-loop-place : goal.invariant-loop-place
invariant-loop-place l = (k : ℕ) (d : Event) → k < l.place →
    ¬ IssuesOlder l.limits l.version (get_or l.events k d) (drop (suc k) l.events)
