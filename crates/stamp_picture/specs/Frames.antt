-- Where bars, points and moments stand on the sheet.
use Rattle.std.specs.Prelude.{ℕ, ◌+◌, ◌*◌, ◌-◌, ◌/◌, ◌==◌, nat_lt, nat_le}
use Rattle.std.specs.Prelude.{min, max, List, [], ◌∷◌, ◌++◌, Result, Ok, Err, length, count_by}
use Rattle.std.specs.Prelude.{Bool, false, if◌then◌else◌}
use Rattle.std.specs.List.{Contains}
use Rattle.std.specs.List.Sorted.{IsStrictlyIncreasing}
use Rattle.stamp_picture.specs.declared.bar.Bar.{Bar}
use Rattle.stamp_picture.specs.declared.picture.Fault.{Fault}
use Rattle.stamp_picture.specs.declared.state.Mode.{Mode}
use Rattle.stamp_picture.specs.declared.state.Mode.TheVariants.{Free, Reading, Writing}
use Rattle.stamp_picture.specs.declared.state.State.{State}
use Rattle.stamp_picture.specs.declared.frames.Class.{Class}
use Rattle.stamp_picture.specs.declared.frames.Class.TheVariants as class
use Rattle.stamp_picture.specs.declared.frames.Frame.{Frame}

-- where the part of a bar that is drawn begins, takes effect if its point is shown, and ends
abbrev pub positions_in : Bar → List ℕ
positions_in b = b.begin ∷ (if b.point_shown then b.point ∷ b.end ∷ [] else b.end ∷ [])

abbrev pub positions_of : List Bar → List ℕ
positions_of [] = []
positions_of (b ∷ bs) = positions_in b ++ positions_of bs

-- each of them once, in rising order
pub record ArePositionsInOrder (bars : List Bar) (positions : List ℕ) : Type 0 where
  pub rising : IsStrictlyIncreasing positions
  pub all : (t : ℕ) → Contains (positions_of bars) t → Contains positions t
  pub no_more : (t : ℕ) → Contains positions t → Contains (positions_of bars) t

-- each of them has a column, and other positions take no room: how many are before a position, and how many
-- are not behind it
abbrev pub column : List ℕ → ℕ → ℕ
column positions position = count_by (λ other. nat_lt other position) positions

abbrev pub column_after : List ℕ → ℕ → ℕ
column_after positions position = count_by (λ other. nat_le other position) positions

-- in pixels: a column; where there are many, 1,200 hold them all, as long as each has 16; of over 2,000 each has 5
abbrev pub unit : List ℕ → ℕ
unit positions = if nat_le (length positions) 2000 then max 16 (min 60 (1200 / max 1 (length positions))) else 5

-- the border with the lanes' names, the first column, a lane, the first lane
abbrev pub border : ℕ
border = 96

abbrev pub left : ℕ
left = 112

abbrev pub lane_height : ℕ
lane_height = 44

abbrev pub lanes_top : ℕ
lanes_top = 120

abbrev pub x_of : List ℕ → ℕ → ℕ
x_of positions columns = left + unit positions * columns

abbrev pub lane_y : ℕ → ℕ
lane_y lane = lanes_top + lane_height * lane

-- the entry of the fault
abbrev pub is_bad : Result ℕ Fault → Bar → Bool
is_bad (Ok n) bar = false
is_bad (Err fault) bar = fault.bad.entry == bar.entry

abbrev pub bar_class : Result ℕ Fault → Bar → Class
bar_class verdict bar = if is_bad verdict bar then class.Bad else class.Bar

-- in its thread's lane, from the column where the part that is drawn begins to behind that where it ends
abbrev pub bar_frame : Result ℕ Fault → List ℕ → Bar → Frame
bar_frame verdict positions bar = record {
  class = bar_class verdict bar;
  x = x_of positions (column positions bar.begin);
  y = lane_y bar.lane + 4;
  width = x_of positions (column_after positions bar.end) - x_of positions (column positions bar.begin);
  height = 36;
}

-- the middle of the column of a point
abbrev pub point_x : List ℕ → ℕ → ℕ
point_x positions point = x_of positions (column positions point) + unit positions / 2

-- at its point, on the lower side of the bar
abbrev pub point_frame : List ℕ → Bar → Frame
point_frame positions bar = record {
  class = class.Point;
  x = point_x positions bar.point - 3;
  y = lane_y bar.lane + 33;
  width = 6;
  height = 11;
}

abbrev pub class_of : Mode → Class
class_of Free = class.Free
class_of (Reading n) = class.Reading
class_of Writing = class.Writing

-- how many lanes there are: up to the last one that a bar has
abbrev pub lanes_in : List Bar → ℕ
lanes_in [] = 0
lanes_in (b ∷ bs) = max (b.lane + 1) (lanes_in bs)

-- the right border, with room for what the last point left
abbrev pub right_of : List ℕ → ℕ
right_of positions = x_of positions (length positions) + 28

-- what the lock is, from one side to another
abbrev pub state_frame : ℕ → ℕ → State → Frame
state_frame x until state = record { class = class_of state.mode; x = x; y = 32; width = until - x; height = 36 }

-- what the record holds
abbrev pub content_frame : ℕ → ℕ → Frame
content_frame x until = record { class = class.Content; x = x; y = 72; width = until - x; height = 22 }

-- a lane, from side to side
abbrev pub lane_frame : List ℕ → ℕ → Frame
lane_frame positions lane = record {
  class = class.Lane;
  x = 4;
  y = lane_y lane;
  width = right_of positions;
  height = lane_height;
}

-- below the lanes
abbrev pub foot_of : List Bar → ℕ
foot_of bars = lane_y (lanes_in bars) + 10

-- every how many columns there is a position on the axis: so many that six digits have room
abbrev pub stride : List ℕ → ℕ
stride positions = 48 / unit positions + 1

-- from the axis to below the lanes, as wide as the columns up to the next position there
abbrev pub axis_frame : List ℕ → ℕ → ℕ → Frame
axis_frame positions lanes column = record {
  class = class.Axis;
  x = x_of positions column;
  y = 98;
  width = min (x_of positions (column + stride positions)) (right_of positions) - x_of positions column;
  height = lane_y lanes - 98;
}
