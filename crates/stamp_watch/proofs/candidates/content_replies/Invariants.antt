use Rattle.std.proofs.Common.{◌≡◌}
use Rattle.std.specs.Prelude.{map, take}
use Rattle.stamp_watch.specs.inner.Candidates.{as_content}
use Rattle.stamp_watch.proofs.candidates.content_replies.Given as goal

abbrev pub invariant-loop-number : goal.invariant-loop-number
invariant-loop-number l = l.replies.items ≡ map as_content (take l.number-index l.numbers)
