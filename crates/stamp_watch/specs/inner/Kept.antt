-- What is kept of a run once more was seen of it.
use Rattle.std.specs.Prelude.{List}
use Rattle.stamp_core.specs.Limits.{Bounds}
use Rattle.stamp_runs.specs.declared.event.Event.{Event}
use Rattle.stamp_watch.specs.declared.course.Course.{Course}
use Rattle.stamp_watch.specs.Course.{IsCourse}
use Rattle.stamp_watch.specs.Possible.{IsKept}

-- of the runs of the one course the other keeps events and a base
abbrev pub StaysKept : Course → Course → Type 0
StaysKept old new = (limits : Bounds) (run : List Event) → IsCourse limits run old → IsKept limits run new
