-- Which orders get no picture, and by what.
use Rattle.std.specs.Prelude.{Bool, false}
use Rattle.stamp_core.specs.Record.{Recorded}
use Rattle.stamp_cli.specs.inner.Refusal as refusal
use Rattle.stamp_picture.specs.declared.window.Window.{Window}
use Rattle.stamp_picture.specs.Picture.{IsCrowded}
use Rattle.stamped_picture.specs.declared.faults.PictureFault.{PictureFault}
use Rattle.stamped_picture.specs.declared.faults.PictureFault.TheVariants.{Serve, NoInput, TooMany}

-- the bars are too many, and the fault says how many
abbrev pub IsUndrawn : Window → Recorded → PictureFault → Type 0
IsUndrawn window history (TooMany n) = IsCrowded history window n
IsUndrawn window history (Serve fault) = ⊥
IsUndrawn window history NoInput = ⊥

-- an end of the command failed, and not what was read
abbrev pub is_of_end : PictureFault → Bool
is_of_end (Serve fault) = refusal.is_of_end fault
is_of_end NoInput = false
is_of_end (TooMany n) = false
