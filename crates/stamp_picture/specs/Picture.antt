-- The picture of a recorded history.
use Rattle.std.specs.Prelude.{ℕ, ◌≡◌, ◌<◌, ◌+◌, List, ◌++◌, take, slice_get, Some, Result, Ok, Err, count_by}
use Rattle.std.specs.Prelude.{codes, decimal}
use Rattle.stamp_core.specs.Record.{Recorded}
use Rattle.stamp_core.specs.declared.entry.Entry.{Entry}
use Rattle.stamp_check.specs.Judgement.{IsJudgement}
use Rattle.stamp_picture.specs.declared.bar.Bar.{Bar}
use Rattle.stamp_picture.specs.declared.picture.Fault.{Fault}
use Rattle.stamp_picture.specs.declared.picture.PictureError.{PictureError}
use Rattle.stamp_picture.specs.declared.picture.PictureError.TheVariants.{Memory, TooMany}
use Rattle.stamp_picture.specs.declared.state.State.{State}
use Rattle.stamp_picture.specs.declared.state.Moment.{Moment}
use Rattle.stamp_picture.specs.declared.window.Window.{Window}
use Rattle.stamp_picture.specs.Bars.{bars_of}
use Rattle.stamp_picture.specs.Due.{IsReplyDue}
use Rattle.stamp_picture.specs.Moment.{moments_of, opening_state}
use Rattle.stamp_picture.specs.Window.{meets}

-- the verdict, the bars, what lock and record were before the first moment, and the moments
pub record Drawn : Type 0 where
  pub verdict : Result ℕ Fault
  pub bars : List Bar
  pub opening : State
  pub ribbon : List Moment

-- the verdict is the one that a check finds; of a bad history, also the call of its first fault, and what was due
-- to it
abbrev pub IsJudged : Recorded → Result ℕ Fault → Type 0
IsJudged r (Ok n) = IsJudgement r (Ok n)
IsJudged r (Err fault) = IsJudgement r (Err fault.bad) ×
    ((e : Entry) → slice_get r.entries fault.bad.entry ≡ Some e →
    (fault.call ≡ e.call) × IsReplyDue r.limits r.width (take fault.bad.entry r.entries) e.call fault.due)

-- how many entries have no fault before or at them
abbrev pub right_in : Result ℕ Fault → ℕ
right_in (Ok n) = n
right_in (Err fault) = fault.bad.entry

-- how many entries are drawn: all of a right history, and up to and with the faulty one of a bad one
abbrev pub drawn_in : Result ℕ Fault → ℕ
drawn_in (Ok n) = n
drawn_in (Err fault) = fault.bad.entry + 1

-- the most bars of a picture
abbrev pub most_bars : ℕ
most_bars = 2000

-- the picture of a history in a window: its verdict, a bar for each entry that is drawn, and the state
-- after each right entry
pub record IsPicture (r : Recorded) (w : Window) (p : Drawn) : Type 0 where
  pub judged : IsJudged r p.verdict
  pub bars : p.bars ≡ bars_of w (take (drawn_in p.verdict) r.entries)
  pub opening : p.opening ≡ opening_state r.limits r.width w (take (right_in p.verdict) r.entries)
  pub ribbon : p.ribbon ≡ moments_of r.limits r.width w (take (right_in p.verdict) r.entries)

-- why there is no picture
abbrev pub error_text : PictureError → List ℕ
error_text Memory = codes "out of memory"
error_text (TooMany n) = decimal n ++ codes " entries to draw, of at most 2000"

-- there are so many bars to draw, which are too many
pub record IsCrowded (r : Recorded) (w : Window) (n : ℕ) : Type 0 where
  pub verdict : Result ℕ Fault
  pub judged : IsJudged r verdict
  pub counted : n ≡ count_by (meets w) (take (drawn_in verdict) r.entries)
  pub many : most_bars < n

-- memory aside, there is no picture only where the bars are too many
abbrev pub IsRefused : Recorded → Window → PictureError → Type 0
IsRefused r w Memory = Unit {0}
IsRefused r w (TooMany n) = IsCrowded r w n
