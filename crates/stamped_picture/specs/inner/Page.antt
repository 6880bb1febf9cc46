-- What holds of a page, memory aside.
use Rattle.std.specs.Prelude.{◌≢◌, Result, Ok, Err}
use Rattle.stamp_cli.specs.declared.faults.ServeFault.{ServeFault}
use Rattle.stamp_cli.specs.declared.faults.ServeFault.TheVariants.{Memory}
use Rattle.stamped_picture.specs.declared.answer.Drawing as made
use Rattle.stamped_picture.specs.declared.faults.PictureFault.{PictureFault}
use Rattle.stamped_picture.specs.declared.faults.PictureFault.TheVariants.{Serve}
use Rattle.stamped_picture.specs.Answer.{DrawingView, drawing_in}

-- memory aside, the fact holds of what a function returned
abbrev pub HoldsUnlessMemory : (Result DrawingView ServeFault → Type 0) → Result made.Drawing ServeFault → Type 0
HoldsUnlessMemory P (Ok page) = P (Ok (drawing_in page))
HoldsUnlessMemory P (Err e) = e ≢ Memory → P (Err e)

-- the same with the program's own faults
abbrev pub HoldsOfInputUnlessMemory : (Result DrawingView PictureFault → Type 0) →
    Result made.Drawing PictureFault → Type 0
HoldsOfInputUnlessMemory P (Ok page) = P (Ok (drawing_in page))
HoldsOfInputUnlessMemory P (Err e) = e ≢ Serve Memory → P (Err e)
