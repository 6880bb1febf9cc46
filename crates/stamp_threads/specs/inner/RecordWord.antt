-- The unit of a version in a record's lock word.
use Rattle.std.specs.Prelude.{ℕ}
use Rattle.stamp_core.specs.Layout.{units_of}
use Rattle.stamp_core.specs.declared.layout.Layout.{Layout}

abbrev pub version_unit : Layout → ℕ
version_unit layout = (units_of layout).version
