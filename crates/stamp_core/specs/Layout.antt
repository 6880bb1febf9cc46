-- The two layouts of words and stamps, each by its units.
use Rattle.std.specs.Prelude.{ℕ, ◌-◌, ◌^◌}
use Rattle.stamp_core.specs.declared.layout.Layout.{Layout}
use Rattle.stamp_core.specs.declared.layout.Layout.TheVariants.{One, Two}

pub record Units : Type 0 where
  -- what one write acquisition adds to a number
  pub version : ℕ
  -- the unit of the writer
  pub writer : ℕ
  -- the most readers, and the most write acquisitions
  pub readers : ℕ
  pub versions : ℕ

abbrev pub narrow : Units
narrow = record { version = 256; writer = 128; readers = 127; versions = 2 ^ 55 - 2 }

abbrev pub wide : Units
wide = record { version = 131072; writer = 65536; readers = 65535; versions = 2 ^ 46 - 2 }

unfoldable pub units_of : Layout → Units
units_of One = narrow
units_of Two = wide
