use Rattle.std.proofs.Common.{◌≡◌, take}
use Rattle.stamp_observed.specs.inner.Span.{spans_of}
use Rattle.stamp_observed.proofs.spans.spans_of.Given as goal

abbrev pub invariant-loop-entry : goal.invariant-loop-entry
invariant-loop-entry l = l.spans.items ≡ spans_of (take l.entry-index l.entries)
