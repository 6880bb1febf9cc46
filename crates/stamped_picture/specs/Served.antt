-- How the program serves an order.
use Rattle.std.specs.Prelude.{ℕ, List, Result}
use Rattle.stamp_cli.specs.Shell.{EndsView, HasHelped, HasServed, IsAlone}
use Rattle.stamp_cli.specs.Source.{most_reads, most_taken}
use Rattle.stamp_cli.specs.declared.faults.ServeFault.TheVariants.{Memory, ReadFault, WriteFault}
use Rattle.stamp_cli.specs.declared.shell.Answered.{Answered}
use Rattle.stamped_picture.specs.declared.faults.PictureFault.{PictureFault}
use Rattle.stamped_picture.specs.declared.faults.PictureFault.TheVariants.{Serve}
use Rattle.stamped_picture.specs.declared.orders.PictureCommand.{PictureCommand}
use Rattle.stamped_picture.specs.declared.orders.PictureCommand.TheVariants.{Help, Draw, Page}
use Rattle.stamped_picture.specs.Answer.{AnswersSource, DrawingView, text_in}
use Rattle.stamped_picture.specs.Page.{AnswersPageSource}

-- what was answered is what the drawing says, and nothing beside it
abbrev pub IsAnsweredBy : DrawingView → Answered → Type 0
IsAnsweredBy drawing answered = IsAlone drawing.verdict answered

-- it tells how it is called by this text; a picture in this style, or a page with this head and tail, is served as its
-- answer says
abbrev pub IsServed : ℕ → List ℕ → List ℕ → List ℕ → List ℕ → PictureCommand → EndsView → EndsView →
    Result Answered PictureFault → Type 0
IsServed most style head tail help Help old new result = HasHelped (Serve WriteFault) help old new result
IsServed most style head tail help (Draw order) old new result = HasServed (Serve ReadFault) (Serve WriteFault)
    (Serve Memory) (AnswersSource style order) IsAnsweredBy text_in most_reads most_taken old new result
IsServed most style head tail help Page old new result = HasServed (Serve ReadFault) (Serve WriteFault)
    (Serve Memory) (AnswersPageSource most head tail) IsAnsweredBy text_in most_reads most_taken old new result
