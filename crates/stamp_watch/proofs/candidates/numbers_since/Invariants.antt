use Rattle.std.proofs.Common.{ℕ, ◌<◌, List, length}
use Rattle.stamp_watch.specs.inner.Candidates.{IsAmong, IsLeftSince}
use Rattle.stamp_watch.proofs.candidates.numbers_since.Given as goal

abbrev pub invariant-loop-place : goal.invariant-loop-place
invariant-loop-place l = (content : List ℕ) (is : IsLeftSince l.events l.from content) → length is.before < l.place →
    IsAmong l.numbers.items content
