use Rattle.std.proofs.Common.{take}
use Rattle.stamp_picture.specs.inner.Track.{IsTrack}
use Rattle.stamp_picture.proofs.picture.track_after.Given as goal

abbrev pub invariant-loop-entry : goal.invariant-loop-entry
invariant-loop-entry l = IsTrack l.limits l.width (take l.entry-index l.entries) l.track
