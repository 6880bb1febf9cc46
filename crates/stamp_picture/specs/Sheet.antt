-- The boxes of a picture, with their words.
use Rattle.std.specs.Prelude.{ℕ, ◌≡◌, ◌+◌, ◌%◌, ◌==◌, List, [], ◌∷◌, ◌++◌, Option, Some}
use Rattle.std.specs.Prelude.{None, Result, Ok, Err, Bool, true, false, max, map, length, get_or}
use Rattle.std.specs.Prelude.{codes, decimal, string_bytes, if◌then◌else◌}
use Rattle.std.specs.List.{filter, range_with_len}
use Rattle.stamp_core.specs.Content.{same_words}
use Rattle.stamp_picture.specs.declared.bar.Bar.{Bar}
use Rattle.stamp_picture.specs.declared.picture.Fault.{Fault}
use Rattle.stamp_picture.specs.declared.state.State.{State}
use Rattle.stamp_picture.specs.declared.state.Moment.{Moment}
use Rattle.stamp_picture.specs.Picture.{Drawn}
use Rattle.stamp_picture.specs.declared.frames.Class.{Class}
use Rattle.stamp_picture.specs.declared.frames.Class.TheVariants as class
use Rattle.stamp_picture.specs.declared.frames.Frame.{Frame}
use Rattle.stamp_picture.specs.declared.sheet.LabelledBox.{LabelledBox}
use Rattle.stamp_picture.specs.declared.sheet.Sheet.{Sheet}
use Rattle.stamp_picture.specs.Frames.{ArePositionsInOrder, lanes_in, right_of, border, point_x, bar_frame}
use Rattle.stamp_picture.specs.Frames.{point_frame, state_frame, content_frame, lane_frame, foot_of}
use Rattle.stamp_picture.specs.Frames.{stride, axis_frame}
use Rattle.stamp_core.specs.Texts.{call_text, reply_text}
use Rattle.stamp_picture.specs.Labels.{answered_text, state_text, short_mode_text, content_text}
use Rattle.stamp_picture.specs.Labels.{verdict_text}

-- where a box stands, and its label
pub record Box : Type 0 where
  pub frame : Frame
  pub title : List ℕ
  pub upper : List ℕ
  pub lower : List ℕ

abbrev pub box_of : LabelledBox → Box
box_of s = record {
  frame = s.frame;
  title = string_bytes s.title;
  upper = string_bytes s.upper;
  lower = string_bytes s.lower;
}

abbrev pub boxes_of : List LabelledBox → List Box
boxes_of boxes = map box_of boxes

-- a box that says the same as its title
abbrev pub plain_box : Frame → List ℕ → Box
plain_box frame label = record { frame = frame; title = label; upper = label; lower = [] }

-- all of a call: its entry, its thread, its reply and its positions
unfoldable pub bar_title : Bar → List ℕ
bar_title bar =
    codes "entry " ++ (decimal bar.entry ++ (codes ", thread " ++ (decimal bar.lane ++
    (codes ": " ++ (answered_text bar ++ (codes ", " ++ (decimal bar.first ++
    (codes " to " ++ (decimal bar.last ++ (codes ", point " ++ decimal bar.point))))))))))

-- the call above its reply
abbrev pub bar_box : Result ℕ Fault → List ℕ → Bar → Box
bar_box verdict positions bar = record {
  frame = bar_frame verdict positions bar;
  title = bar_title bar;
  upper = call_text bar.call;
  lower = codes "= " ++ reply_text bar.reply;
}

abbrev pub point_box : List ℕ → Bar → Box
point_box positions bar = record { frame = point_frame positions bar; title = bar_title bar; upper = []; lower = [] }

-- one for each bar whose point is in the window
abbrev pub point_boxes : List ℕ → List Bar → List Box
point_boxes positions bars = map (point_box positions) (filter (λ (b : Bar). b.point_shown) bars)

-- who holds the lock above its version, from one side to another
abbrev pub state_box : ℕ → ℕ → State → Box
state_box x until s = record {
  frame = state_frame x until s;
  title = state_text s;
  upper = short_mode_text s.mode;
  lower = codes "v " ++ decimal s.version;
}

-- a state from here to the first of these moments, and what each of them left to the next; the last goes on to
-- the right border
abbrev pub ribbon_boxes : List ℕ → ℕ → State → List Moment → List Box
ribbon_boxes positions x s [] = state_box x (right_of positions) s ∷ []
ribbon_boxes positions x s (m ∷ ms) =
    state_box x (point_x positions m.point) s ∷ ribbon_boxes positions (point_x positions m.point) m.state ms

abbrev pub content_box : ℕ → ℕ → Option (List ℕ) → Box
content_box x until content = plain_box (content_frame x until) (content_text content)

abbrev pub same_content : Option (List ℕ) → Option (List ℕ) → Bool
same_content None None = true
same_content None (Some b) = false
same_content (Some a) None = false
same_content (Some a) (Some b) = same_words a b

-- a content from here to the first of these moments that changes it, and so on
abbrev pub held_boxes : List ℕ → ℕ → Option (List ℕ) → List Moment → List Box
held_boxes positions x held [] = content_box x (right_of positions) held ∷ []
held_boxes positions x held (m ∷ ms) =
    if same_content held m.state.content then held_boxes positions x held ms
    else content_box x (point_x positions m.point) held ∷
    held_boxes positions (point_x positions m.point) m.state.content ms

-- a name in the border
abbrev pub name_box : ℕ → List ℕ → Box
name_box y name = plain_box (record { class = class.Note; x = 4; y = y; width = 90; height = 22 }) name

-- what the record holds; nothing without a record
abbrev pub content_boxes : List ℕ → Option (List ℕ) → List Moment → List Box
content_boxes positions None ribbon = []
content_boxes positions (Some words) ribbon =
    name_box 72 (codes "record") ∷ held_boxes positions border (Some words) ribbon

-- a lane with its thread's name
abbrev pub lane_box : List ℕ → ℕ → Box
lane_box positions lane = record {
  frame = lane_frame positions lane;
  title = codes "thread " ++ decimal lane;
  upper = [];
  lower = codes "thread " ++ decimal lane;
}

-- a position where its column begins
abbrev pub axis_box : List ℕ → ℕ → ℕ → Box
axis_box positions lanes column = record {
  frame = axis_frame positions lanes column;
  title = codes "position " ++ decimal (get_or positions column 0);
  upper = decimal (get_or positions column 0);
  lower = [];
}

-- one for each column that the axis names
abbrev pub axis_boxes : List ℕ → ℕ → List Box
axis_boxes positions lanes = map (axis_box positions lanes)
    (filter (λ (column : ℕ). column % stride positions == 0) (range_with_len 0 (length positions)))

abbrev pub verdict_class : Result ℕ Fault → Class
verdict_class (Ok n) = class.Note
verdict_class (Err fault) = class.Bad

-- in a row of the legend
abbrev pub legend_box : ℕ → Class → ℕ → ℕ → List ℕ → Box
legend_box y c x width label = plain_box (record { class = c; x = x; y = y; width = width; height = 22 }) label

abbrev pub verdict_box : Result ℕ Fault → Box
verdict_box verdict = legend_box 4 (verdict_class verdict) border 620 (verdict_text verdict)

-- the verdict, the lock's name, and a legend
abbrev pub note_boxes : Result ℕ Fault → ℕ → List Box
note_boxes verdict y =
    verdict_box verdict ∷
    name_box 40 (codes "lock") ∷
    legend_box y class.Free 96 60 (codes "free") ∷
    legend_box y class.Reading 160 76 (codes "n readers") ∷
    legend_box y class.Writing 240 60 (codes "writing") ∷
    legend_box y class.Bar 304 60 (codes "call") ∷
    legend_box y class.Bad 368 60 (codes "fault") ∷
    legend_box y class.Point 440 6 [] ∷
    legend_box y class.Note 448 268 (codes "takes effect; v: the version") ∷ []

-- a box for each lane, named position, bar, point in the window and state, in their order, and the notes; the sheet
-- is as large as they need
pub record IsSheet (p : Drawn) (sheet : Sheet) : Type 0 where
  pub positions : List ℕ
  pub are_in_order : ArePositionsInOrder p.bars positions
  pub width : sheet.width ≡ max (right_of positions) 716 + 12
  pub height : sheet.height ≡ foot_of p.bars + 32
  pub lanes : boxes_of sheet.lanes.items ≡ map (lane_box positions) (range_with_len 0 (lanes_in p.bars))
  pub axis : boxes_of sheet.axis.items ≡ axis_boxes positions (lanes_in p.bars)
  pub ribbon : boxes_of sheet.ribbon.items ≡ ribbon_boxes positions border p.opening p.ribbon
  pub content : boxes_of sheet.content.items ≡ content_boxes positions p.opening.content p.ribbon
  pub bars : boxes_of sheet.bars.items ≡ map (bar_box p.verdict positions) p.bars
  pub points : boxes_of sheet.points.items ≡ point_boxes positions p.bars
  pub notes : boxes_of sheet.notes.items ≡ note_boxes p.verdict (foot_of p.bars)
