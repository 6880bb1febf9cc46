-- The line on standard error for each fault.
use Rattle.std.specs.Prelude.{ℕ, List, ◌++◌, codes, decimal}
use Rattle.stamp_cli.specs.FaultText.{named_fault_text}
use Rattle.stamp_cli.specs.declared.faults.ServeFault.TheVariants as serve
use Rattle.stamp_picture.specs.declared.picture.PictureError.{PictureError}
use Rattle.stamp_picture.specs.declared.picture.PictureError.TheVariants as picture
use Rattle.stamped_picture.specs.declared.faults.PictureFault.{PictureFault}
use Rattle.stamped_picture.specs.declared.faults.PictureFault.TheVariants.{Serve, NoInput, TooMany}

-- what has no picture for want of memory is refused as any want of memory is
abbrev pub picture_fault : PictureError → PictureFault
picture_fault picture.Memory = Serve serve.Memory
picture_fault (picture.TooMany n) = TooMany n

abbrev pub picture_fault_text : PictureFault → List ℕ
picture_fault_text (Serve fault) = named_fault_text (codes "stamped_picture") fault
picture_fault_text NoInput = codes "stamped_picture: no input"
picture_fault_text (TooMany n) =
    codes "stamped_picture: " ++ decimal n ++ codes " entries to draw, over 2000: give --from A --to B, or --html"
