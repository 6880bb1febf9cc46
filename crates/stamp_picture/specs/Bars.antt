-- The bars of entries.
use Rattle.std.specs.Prelude.{ℕ, ◌≡◌, ◌≤◌, ◌+◌, min, max, true, List, [], ◌∷◌, if◌then◌else◌}
use Rattle.stamp_core.specs.declared.entry.Entry.{Entry}
use Rattle.stamp_picture.specs.declared.bar.Bar.{Bar}
use Rattle.stamp_picture.specs.declared.window.Window.{Window}
use Rattle.stamp_picture.specs.Window.{meets, contains, nearest}

-- in its thread's lane, with the entry's first position, point and last, its call and its reply; of the
-- interval the part in the window is drawn, and the point is shown if it is there
abbrev pub bar_of : Window → ℕ → Entry → Bar
bar_of w number e = record {
  entry = number;
  lane = e.thread;
  first = e.first;
  point = e.point;
  last = e.last;
  call = e.call;
  reply = e.reply;
  begin = nearest w (min e.first e.last);
  end = nearest w (max e.first e.last);
  point_shown = contains w e.point;
}

-- one bar for each entry that the window shows, in order; the first of them has this number
abbrev pub bars_from : Window → ℕ → List Entry → List Bar
bars_from w number [] = []
bars_from w number (e ∷ es) =
    if meets w e then bar_of w number e ∷ bars_from w (number + 1) es else bars_from w (number + 1) es

-- what is drawn of the bar lies in the window, and so does its point if that is shown
pub record IsInside (w : Window) (b : Bar) : Type 0 where
  pub begins : w.from ≤ b.begin
  pub goes_on : b.begin ≤ b.end
  pub ends : b.end ≤ w.to
  pub point : b.point_shown ≡ true → (w.from ≤ b.point) × (b.point ≤ w.to)

abbrev pub bars_of : Window → List Entry → List Bar
bars_of w entries = bars_from w 0 entries
