use Rattle.std.proofs.Common.{◌≡◌, take}
use Rattle.stamp_picture.specs.Moment.{moments_of, opening_state}
use Rattle.stamp_picture.specs.inner.Track.{IsTrack}
use Rattle.stamp_picture.proofs.picture.ribbon_of.Given as goal

abbrev pub invariant-loop-entry : goal.invariant-loop-entry
invariant-loop-entry l = record {
  track : IsTrack l.limits l.width (take l.entry-index l.entries) l.track;
  opening : l.opening ≡ opening_state l.limits l.width l.window (take l.entry-index l.entries);
  ribbon : l.ribbon.items ≡ moments_of l.limits l.width l.window (take l.entry-index l.entries);
}
