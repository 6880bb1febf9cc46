-- The picture that answers an order, or why there is none.
use Rattle.std.specs.Prelude.{ℕ, ◌≡◌, ◌≢◌, ◌≤◌, length, List, [], Option, Result, Ok, Err}
use Rattle.stamp_core.specs.Record.{Recorded}
use Rattle.stamp_history.specs.History.{recorded_of}
use Rattle.stamp_cli.specs.Answer.{IsInputAnswer, AnswersCheck, AnswersRead}
use Rattle.stamp_cli.specs.Source.{Reads, most_bytes}
use Rattle.stamp_cli.specs.declared.line.Verdict.{Verdict}
use Rattle.stamp_cli.specs.declared.line.Verdict.TheVariants.{Accepted, Bad}
use Rattle.stamp_picture.specs.declared.picture.Fault.{Fault}
use Rattle.stamp_picture.specs.declared.window.Window.{Window}
use Rattle.stamp_picture.specs.Picture.{Drawn, IsPicture, IsCrowded}
use Rattle.stamp_picture.specs.declared.sheet.Sheet.{Sheet}
use Rattle.stamp_picture.specs.Markup.{IsDocument}
use Rattle.stamp_picture.specs.Sheet.{IsSheet}
use Rattle.stamp_picture.specs.Svg.{svg_text}
use Rattle.stamp_picture.specs.Rows.{IsRows, AreNarrow}
use Rattle.stamped_picture.specs.declared.orders.PictureFormat.{PictureFormat}
use Rattle.stamped_picture.specs.declared.orders.PictureFormat.TheVariants.{Svg, Text}
use Rattle.stamped_picture.specs.declared.orders.PictureOrder.{PictureOrder}
use Rattle.stamped_picture.specs.declared.answer.Drawing as made
use Rattle.stamped_picture.specs.declared.faults.PictureFault.{PictureFault}
use Rattle.stamped_picture.specs.declared.faults.PictureFault.TheVariants.{Serve, NoInput, TooMany}

-- a picture as contracts see it: its text, and what it says of the history
pub record DrawingView : Type 0 where
  pub text : List ℕ
  pub verdict : Verdict

abbrev pub drawing_in : made.Drawing → DrawingView
drawing_in drawing = record { text = drawing.text.items; verdict = drawing.verdict }

abbrev pub text_in : DrawingView → List ℕ
text_in drawing = drawing.text

abbrev pub IsVerdictOf : DrawingView → Verdict → Type 0
IsVerdictOf drawing verdict = verdict ≡ drawing.verdict

abbrev pub verdict_in : Result ℕ Fault → Verdict
verdict_in (Ok n) = Accepted
verdict_in (Err fault) = Bad

-- the text is the SVG of the picture's boxes
pub record IsSvg (style : List ℕ) (picture : Drawn) (text : List ℕ) : Type 0 where
  pub sheet : Sheet
  pub is_sheet : IsSheet picture sheet
  pub is : text ≡ svg_text style sheet
  pub document : IsDocument text

-- the picture is drawn so: as SVG, or as lines of at most so many characters
unfoldable pub IsDrawnAs : PictureFormat → List ℕ → Drawn → List ℕ → Type 0
IsDrawnAs Svg style picture text = IsSvg style picture text
IsDrawnAs (Text width) style picture text = IsRows width picture text × AreNarrow width text

-- the text is that of the history's picture in the window, and the verdict is the picture's
pub record IsDrawnText (style : List ℕ) (order : PictureOrder) (history : Recorded) (drawing : DrawingView) :
    Type 0 where
  pub picture : Drawn
  pub is_picture : IsPicture history order.window picture
  pub drawn : IsDrawnAs order.format style picture drawing.text
  pub verdict : drawing.verdict ≡ verdict_in picture.verdict

-- the input is a history, and this is its picture
pub record IsPictureAnswer (style : List ℕ) (order : PictureOrder) (input : List ℕ) (drawing : DrawingView) :
    Type 0 where
  pub within : length input ≤ most_bytes
  pub history : Recorded
  pub read : recorded_of input ≡ Ok history
  pub drawn : IsDrawnText style order history drawing

-- the input is a history of which there are too many bars to draw
pub record IsTooMany (window : Window) (input : List ℕ) (n : ℕ) : Type 0 where
  pub within : length input ≤ most_bytes
  pub history : Recorded
  pub read : recorded_of input ≡ Ok history
  pub crowded : IsCrowded history window n

-- the fault is the one that a check of the input is refused by, or there was no input, or there are too many bars
abbrev pub IsRefused : Window → List ℕ → PictureFault → Type 0
IsRefused window input (Serve fault) = (input ≢ []) × IsInputAnswer AnswersCheck input (Err fault)
IsRefused window input NoInput = input ≡ []
IsRefused window input (TooMany n) = IsTooMany window input n

-- the answer to an input
abbrev pub AnswersPicture : List ℕ → PictureOrder → List ℕ → Result DrawingView PictureFault → Type 0
AnswersPicture style order input (Ok drawing) = IsPictureAnswer style order input drawing
AnswersPicture style order input (Err fault) = IsRefused order.window input fault

-- a source was read as input, and this is the answer
abbrev pub AnswersSource : List ℕ → PictureOrder → Option (List ℕ) → Option (List ℕ) → ℕ →
    Result DrawingView PictureFault → Type 0
AnswersSource style order old new taken answer = AnswersRead (Reads old new) (AnswersPicture style order) taken answer
