use Rattle.std.proofs.Common.{rules}
use Rattle.std.proofs.lemmas.List.Sorted.{IsNonDecreasingBy-from_sort_by_key}
use Rattle.stamp_observed.specs.declared.spans.Span.{Span}
use Rattle.stamp_observed.proofs.spans.sorted.Goals as goal

pub returns : goal.returns
returns c = record {
  moved = c.in_ok-sort_by_key.ensures.permutation;
  rising = IsNonDecreasingBy-from_sort_by_key (λ (s : Span). s.first) _ c.in_ok-sort_by_key.ensures.sorted
      (λ a r q k. search rules);
}
