-- Which numbers limits admit, by their counts.
use Rattle.std.specs.Prelude.{ℕ, ◌≤◌, ◌<◌, ◌/◌}
use Rattle.stamp_core.specs.Limits.{Bounds, units}
use Rattle.stamp_core.specs.Decoded.{counts_of}

-- a version is begun, and the counts are within the limits
abbrev pub IsWithinLimits : Bounds → ℕ → Type 0
IsWithinLimits limits n = (0 < n / (units limits).version) × ((counts_of (units limits) n).readers ≤ limits.readers) ×
    ((counts_of (units limits) n).write_count ≤ limits.versions)
