-- The lock word of a record, in either layout: a lock's word, whose write acquisitions are the puts.
use Rattle.std.specs.Prelude.{ℕ, ◌+◌, Bool, if◌then◌else◌}
use Rattle.stamp_core.specs.Layout.{units_of}
use Rattle.stamp_core.specs.Stamp.{write_stamp, optimistic_stamp}
use Rattle.stamp_core.specs.declared.layout.Layout.{Layout}

-- the unit of write mode
abbrev pub writer_unit : Layout → ℕ
writer_unit layout = (units_of layout).writer

-- the word after this many puts; where write mode is held, it is held for one more
abbrev pub word_with : Layout → ℕ → Bool → ℕ
word_with layout puts held =
    if held then write_stamp (units_of layout) (puts + 1) else optimistic_stamp (units_of layout) puts
