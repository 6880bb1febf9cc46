-- Which recorded histories are linearized by their points.
use Rattle.std.specs.Prelude.{ℕ, ◌≡◌, ◌≤◌, ◌<◌, ◌-◌, List, length, map, slice_index_or}
use Rattle.std.specs.List.{All, AllPairs, AllAdjacentBelow}
use Rattle.stamp_core.specs.Limits.{Bounds}
use Rattle.stamp_core.specs.History.{History, IsLegal, IsReply, events_of, content_after}
use Rattle.stamp_core.specs.Record.{Recorded}
use Rattle.stamp_core.specs.declared.entry.Entry.{Entry}

-- the calls and replies, in the order of the list
abbrev pub history_of : List Entry → History
history_of entries = map (λ (e : Entry). (e.call, e.reply)) entries

-- the point lies between the first and the last position
pub record HasPointInside (e : Entry) : Type 0 where
  pub begun : e.first ≤ e.point
  pub ended : e.point ≤ e.last

-- a later entry of the same thread began after the earlier one had ended
abbrev pub KeepsThreadOrder : Entry → Entry → Type 0
KeepsThreadOrder earlier later = earlier.thread ≡ later.thread → earlier.last < later.first

-- points lie in their intervals and rise, the entries of a thread do not overlap, and the history
-- in this order is legal
pub record AreLinearized (limits : Bounds) (width : ℕ) (entries : List Entry) : Type 0 where
  pub within : All HasPointInside entries
  pub rising : AllAdjacentBelow (λ (e f : Entry). e.point < f.point) entries (length entries)
  pub apart : AllPairs KeepsThreadOrder entries
  pub legal : IsLegal limits width (history_of entries)

abbrev pub IsLinearized : Recorded → Type 0
IsLinearized r = AreLinearized r.limits r.width r.entries

-- what an entry must meet, after those before it
abbrev pub RisesAbove : List Entry → Entry → Type 0
RisesAbove before e = (d : Entry) → 0 < length before → (slice_index_or before (length before - 1) d).point < e.point

abbrev pub FollowsItsThread : List Entry → Entry → Type 0
FollowsItsThread before e = All (λ (d : Entry). KeepsThreadOrder d e) before

abbrev pub IsAnswered : Bounds → ℕ → List Entry → Entry → Type 0
IsAnswered limits width before e = IsReply limits (events_of limits (history_of before))
    (content_after width (history_of before)) e.call e.reply

-- the entry may come after those before it
pub record MayFollow (limits : Bounds) (width : ℕ) (before : List Entry) (e : Entry) : Type 0 where
  pub within : HasPointInside e
  pub rises : RisesAbove before e
  pub follows : FollowsItsThread before e
  pub answered : IsAnswered limits width before e
