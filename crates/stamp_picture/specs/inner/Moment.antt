-- What the lock is, by its word.
use Rattle.std.specs.Prelude.{◌≡◌}
use Rattle.stamp_core.specs.LockEvent.{counts}
use Rattle.stamp_core.specs.Limits.{Bounds}
use Rattle.stamp_core.specs.Word.{LockWord, HoldsForEvents}
use Rattle.stamp_picture.specs.declared.state.Mode.{Mode}
use Rattle.stamp_picture.specs.Moment.{mode_of}

-- the mode after all events that the word represents
abbrev pub mode_in : Bounds → LockWord → Mode → Type 0
mode_in limits word mode = HoldsForEvents word (λ events. mode ≡ mode_of (counts events))
