-- Where a call stands in what is seen of a history.
use Rattle.std.specs.Prelude.{ℕ, List, length, take}
use Rattle.stamp_explain.specs.declared.observed.Observation.{Observation}
use Rattle.stamp_explain.specs.Cut.{begun_by}

-- how many of the calls that are listed before this one had begun by this position: its index then
abbrev pub index_then : ℕ → ℕ → List Observation → ℕ
index_then last i es = length (begun_by last (take i es))
