-- How long a call keeps its thread.
use Rattle.std.specs.Prelude.{ℕ, ◌≡◌, ◌+◌, ◌≤◌, ◌<◌, Option, None, Some, MatchOption, List, map}
use Rattle.std.specs.List.Sorted.{IsPermutation, IsNonDecreasingBy}
use Rattle.stamp_explain.specs.declared.observed.Observation.{Observation}
use Rattle.stamp_explain.specs.declared.observed.Returned.{Returned}
use Rattle.stamp_observed.specs.declared.spans.Span.{Span}

-- the first position at which the thread may begin its next call; one that is under way leaves none
abbrev pub free_after : Option Returned → ℕ
free_after None = 18446744073709551615
free_after (Some r) = r.last + 1

-- a return is below 2 to the 58
abbrev pub EndsLow : Option Returned → Type 0
EndsLow ended = MatchOption ended (Unit {0}) (λ (r : Returned). r.last < 288230376151711744)

abbrev pub span_of : Observation → Span
span_of e = record { thread = e.thread; first = e.first; free = free_after e.returned }

abbrev pub spans_of : List Observation → List Span
spans_of entries = map span_of entries

-- the later of two calls begins when its thread is free again, if they are of one thread
abbrev pub Follows : Span → Span → Type 0
Follows earlier later = earlier.thread ≡ later.thread → earlier.free ≤ later.first

-- the same spans, in the order in which they begin
pub record AreSorted (spans sorted : List Span) : Type 0 where
  pub moved : IsPermutation spans sorted
  pub rising : IsNonDecreasingBy (λ (s : Span). s.first) sorted
