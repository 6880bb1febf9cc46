-- The limits of a lock: its layout, and how many readers and write acquisitions it may have.
use Rattle.std.specs.Prelude.{ℕ, ◌≤◌}
use Rattle.stamp_core.specs.Layout.{Units, units_of}
use Rattle.stamp_core.specs.declared.layout.Layout.{Layout}

pub record Bounds : Type 0 where
  pub layout : Layout
  pub readers : ℕ
  pub versions : ℕ

abbrev pub bounds : Layout → ℕ → ℕ → Bounds
bounds layout readers versions = record { layout = layout; readers = readers; versions = versions }

abbrev pub units : Bounds → Units
units limits = units_of limits.layout

-- at least one reader, and no more of either than the layout has room for
pub record AreInRange (limits : Bounds) : Type 0 where
  pub some_reader : 1 ≤ limits.readers
  pub readers : limits.readers ≤ (units limits).readers
  pub versions : limits.versions ≤ (units limits).versions

-- the widest limits of a layout
abbrev pub widest : Layout → Bounds
widest layout = bounds layout (units_of layout).readers (units_of layout).versions
