-- Which replies a call of an observed history could have had.
use Rattle.std.specs.Prelude.{ℕ, ◌≡◌, ◌≢◌, ◌↔◌, ◌+◌, List, slice_set}
use Rattle.std.specs.Prelude.{Option, None, Some}
use Rattle.std.specs.List.{All, AllPairs, Contains}
use Rattle.stamp_core.specs.declared.reply.Reply.{Reply}
use Rattle.stamp_explain.specs.declared.observed.Observation.{Observation}
use Rattle.stamp_explain.specs.declared.observed.Returned.{Returned}
use Rattle.stamp_explain.specs.Observed.{ObservedHistory, IsReturnAt}
use Rattle.stamp_explain.specs.Explained.{IsExplained}
use Rattle.stamp_explain.specs.Cut.{cut_after, seen_at}

-- the call, returned at the same position with this reply
abbrev pub returned_with : Observation → Returned → Reply → Observation
returned_with e r reply = record e { returned = Some (record r { reply = reply }) }

-- the history with this reply of the call of this entry
abbrev pub with_reply : ℕ → Observation → Returned → Reply → ObservedHistory → ObservedHistory
with_reply i e r reply h = record h { entries = slice_set h.entries i (returned_with e r reply) }

-- what is seen when the call of this entry has returned, with this reply; or, with none, before it returns
abbrev pub seen_with : ℕ → Observation → Returned → Option Reply → ObservedHistory → ObservedHistory
seen_with i e r None h = seen_at r.last i h
seen_with i e r (Some reply) h = seen_at r.last (i + 1) (with_reply i e r reply h)

pub record IsSeenUntil (h : ObservedHistory) (i : ℕ) (reply : Option Reply) (seen : ObservedHistory) : Type 0 where
  pub at : IsReturnAt h.entries i
  pub is : seen ≡ seen_with i at.entry at.return reply h

-- with this reply instead of its own, the cut with the return of this entry is explained
pub record IsPossible (h : ObservedHistory) (i : ℕ) (reply : Reply) : Type 0 where
  pub at : IsReturnAt h.entries i
  pub explained : IsExplained (cut_after at.return i (with_reply i at.entry at.return reply h))

-- of the replies that were tried these are the possible ones, all different if those are
pub record ArePossible (h : ObservedHistory) (i : ℕ) (tried found : List Reply) : Type 0 where
  pub each : (reply : Reply) → Contains found reply ↔ (Contains tried reply × IsPossible h i reply)
  pub once : AllPairs (λ (a b : Reply). a ≢ b) tried → AllPairs (λ (a b : Reply). a ≢ b) found

-- these are all the possible replies, each once
pub record AreAllPossible (h : ObservedHistory) (i : ℕ) (found : List Reply) : Type 0 where
  pub each : All (IsPossible h i) found
  pub whole : (reply : Reply) → ¬ Contains found reply → ¬ IsPossible h i reply
  pub once : AllPairs (λ (a b : Reply). a ≢ b) found
