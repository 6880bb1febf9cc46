-- Which entries and which points a window shows, and which part of an interval.
use Rattle.std.specs.Prelude.{ℕ, ◌&&◌, ◌||◌, nat_le, nat_lt, min, max, Bool}
use Rattle.stamp_core.specs.declared.entry.Entry.{Entry}
use Rattle.stamp_picture.specs.declared.window.Window.{Window}

-- the point is in the window
abbrev pub contains : Window → ℕ → Bool
contains w point = nat_le w.from point && nat_le point w.to

-- the interval, which is from the lesser to the greater of first and last, has a position in the window
abbrev pub overlaps : Window → Entry → Bool
overlaps w e = nat_le (max w.from (min e.first e.last)) (min w.to (max e.first e.last))

-- the interval or the point of the entry is in the window, in part at least
abbrev pub meets : Window → Entry → Bool
meets w e = overlaps w e || contains w e.point

-- the position of the window that is nearest
abbrev pub nearest : Window → ℕ → ℕ
nearest w position = max w.from (min position w.to)

-- the point is before the window
abbrev pub precedes : ℕ → Window → Bool
precedes point w = nat_lt point w.from
