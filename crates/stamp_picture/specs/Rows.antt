-- A picture in characters, in which time goes down: a line for each moment, and in it a column for each lane.
use Rattle.std.specs.Prelude.{ℕ, ◌≡◌, ◌≤◌, ◌==◌, ◌&&◌, ◌||◌, ◌^◌, ◌-◌}
use Rattle.std.specs.Prelude.{nat_le, nat_lt, Bool, false, List, [], ◌∷◌, ◌++◌, Result}
use Rattle.std.specs.Prelude.{map, reverse, length, codes, decimal, if◌then◌else◌}
use Rattle.std.specs.Fmt.{padded_integral, format_spec}
use Rattle.std.specs.List.{concat, filter, find, range_with_len}
use Rattle.std.specs.Option.{option_map_or}
use Rattle.stamp_picture.specs.declared.bar.Bar.{Bar}
use Rattle.stamp_picture.specs.declared.picture.Fault.{Fault}
use Rattle.stamp_picture.specs.declared.state.State.{State}
use Rattle.stamp_picture.specs.declared.state.Moment.{Moment}
use Rattle.stamp_picture.specs.Picture.{Drawn}
use Rattle.stamp_picture.specs.Frames.{ArePositionsInOrder, is_bad, lanes_in}
use Rattle.stamp_core.specs.Texts.{call_text, reply_text}
use Rattle.stamp_picture.specs.Labels.{answered_text, brief_text, shortened, verdict_text}

-- the bar is there at that position: in the part that is drawn, or at its point
abbrev pub is_at : ℕ → Bar → Bool
is_at t bar = nat_le bar.begin t && nat_le t bar.end || bar.point == t

abbrev pub bars_at : ℕ → List Bar → List Bar
bars_at t bars = filter (is_at t) bars

-- how a bar is drawn there
abbrev pub sign_text : Result ℕ Fault → ℕ → Bar → List ℕ
sign_text verdict t bar =
    if bar.point == t then (if is_bad verdict bar then codes "X  " else codes "*  ")
    else if is_bad verdict bar then codes "!  "
    else if bar.first == t then codes ",  "
    else if bar.last == t then codes "'  "
    else codes "|  "

-- a lane's column: of the bars that are there, the last one of the lane
abbrev pub lane_text : Result ℕ Fault → ℕ → List Bar → ℕ → List ℕ
lane_text verdict t there lane =
    option_map_or (sign_text verdict t) (find (λ (b : Bar). b.lane == lane) (reverse there)) (codes "   ")

abbrev pub lanes_text : Result ℕ Fault → ℕ → List Bar → ℕ → List ℕ
lanes_text verdict t there lanes = concat (map (lane_text verdict t there) (range_with_len 0 lanes))

-- a position, right-aligned in six characters
abbrev pub position_text : ℕ → List ℕ
position_text t = padded_integral (format_spec 32 3 0 6 (2 ^ 64 - 1)) false [] (decimal t)

-- what is told of a bar: its call where it begins, its call and reply at its point, its reply where it ends
abbrev pub told_text : ℕ → Bar → List ℕ
told_text t bar =
    if bar.point == t then codes "  " ++ (decimal bar.lane ++ (codes ": " ++ (answered_text bar ++
    (codes " (entry " ++ (decimal bar.entry ++ codes ")")))))
    else if bar.first == t then codes "  " ++ (decimal bar.lane ++ (codes ": " ++ call_text bar.call))
    else if bar.last == t then codes "  " ++ (decimal bar.lane ++ (codes ": = " ++ reply_text bar.reply))
    else []

-- what lock and record were after the point
abbrev pub left_text : ℕ → Moment → List ℕ
left_text t moment = if moment.point == t then codes " -> " ++ brief_text moment.state else []

-- the line of a position: the lanes, the position, what is told of the bars, and what the point left
unfoldable pub row_text : Drawn → ℕ → List ℕ
row_text p t =
    lanes_text p.verdict t (bars_at t p.bars) (lanes_in p.bars) ++ (position_text t ++
    (concat (map (told_text t) (bars_at t p.bars)) ++ concat (map (left_text t) p.ribbon)))

abbrev pub legend_text : List ℕ
legend_text = codes ", begins  | goes on  * takes effect  ' ends; the faulty entry has ! and X"

abbrev pub at_first_text : State → List ℕ
at_first_text s = codes "at first: " ++ brief_text s

-- a thread's number above its lane
abbrev pub number_text : ℕ → List ℕ
number_text lane = decimal lane ++ (if nat_lt lane 10 then codes "  " else codes " ")

abbrev pub heading_tail_text : List ℕ
heading_tail_text = codes "    at  thread: call = reply -> what the lock was then (v: its version)"

abbrev pub heading_text : ℕ → List ℕ
heading_text lanes = concat (map number_text (range_with_len 0 lanes)) ++ heading_tail_text

-- the lines: a legend, what was before, the threads' numbers, a line for each position, and the verdict
abbrev pub lines_of : Drawn → List ℕ → List (List ℕ)
lines_of p positions =
    legend_text ∷ at_first_text p.opening ∷ heading_text (lanes_in p.bars) ∷
    (map (row_text p) positions ++ verdict_text p.verdict ∷ [])

abbrev pub cut_text : ℕ → List ℕ → List ℕ
cut_text width line = shortened width line ++ 10 ∷ []

-- the text of the picture, in so many columns
pub record IsRows (width : ℕ) (p : Drawn) (text : List ℕ) : Type 0 where
  pub positions : List ℕ
  pub are_in_order : ArePositionsInOrder p.bars positions
  pub is : text ≡ concat (map (cut_text width) (lines_of p positions))

-- lines of at most so many characters, each with its line feed
pub data AreNarrow (width : ℕ) : List ℕ → Type 0 where
  none : AreNarrow width []
  line : (row rest : List ℕ) → length row ≤ width → AreNarrow width rest →
      AreNarrow width ((row ++ 10 ∷ []) ++ rest)
