-- Which recorded histories are of an observed one. A position p becomes the positions 64 p to 64 p + 63: a call
-- begins at the first and ends at the last that became of its own, and points stand between
use Rattle.std.specs.Prelude.{ℕ, ◌≡◌, ◌≢◌, ◌≤◌, ◌⊎◌, ◌+◌, ◌*◌, max, List, [], map, slice_get, Option, None, Some}
use Rattle.std.specs.Prelude.{MatchOption}
use Rattle.std.specs.List.{All, AllPairs, AllZip, Contains}
use Rattle.stamp_core.specs.Record.{Recorded}
use Rattle.stamp_core.specs.Linearized.{IsLinearized}
use Rattle.stamp_core.specs.declared.entry.Entry.{Entry}
use Rattle.stamp_explain.specs.declared.observed.Observation.{Observation}
use Rattle.stamp_explain.specs.declared.observed.Returned.{Returned}
use Rattle.stamp_explain.specs.Observed.{ObservedHistory, HasReturned}

-- an entry of it, and the observed call of this index; one that is under way may end at any position,
-- with any reply
pub record IsEntryOf (entries : List Observation) (i : ℕ) (e : Entry) : Type 0 where
  pub observed : Observation
  pub is_entry : slice_get entries i ≡ Some observed
  pub thread : e.thread ≡ observed.thread
  pub call : e.call ≡ observed.call
  pub first : e.first ≡ 64 * observed.first
  pub returned : MatchOption observed.returned (Unit {0}) (λ (r : Returned). (e.reply ≡ r.reply) ×
      (e.last ≡ 64 * r.last + 63))

-- a recorded history of the returned calls, and of some under way
pub record IsRecordOfObserved (h : ObservedHistory) (r : Recorded) : Type 0 where
  pub limits : r.limits ≡ h.limits
  pub width : r.width ≡ h.width
  pub report : r.report ≡ []
  pub indices : List ℕ
  pub entries : AllZip (IsEntryOf h.entries) indices r.entries
  pub once : AllPairs (λ (i j : ℕ). i ≢ j) indices
  pub returned : (i : ℕ) (e : Observation) → slice_get h.entries i ≡ Some e → HasReturned e → Contains indices i

-- the last position of a call; one that is under way has that of the end of the history
abbrev pub ends_at : Option Returned → ℕ → ℕ
ends_at None end = 64 * end + 63
ends_at (Some r) end = 64 * r.last + 63

-- the last position that is told of a call
abbrev pub told_last_by : Option Returned → ℕ → ℕ
told_last_by None first = first
told_last_by (Some r) first = max first r.last

abbrev pub told_until : Observation → ℕ
told_until e = told_last_by e.returned e.first

-- the last position that is told of any; 0 where there is no call
pub record IsLastTold (entries : List Observation) (end : ℕ) : Type 0 where
  pub over : All (λ (e : Observation). told_until e ≤ end) entries
  pub told : (end ≡ 0) ⊎ Contains (map told_until entries) end

-- an entry ends when its call returned, or with the history
abbrev pub EndsAsTold : List Observation → ℕ → ℕ → Entry → Type 0
EndsAsTold entries end i e = (o : Observation) → slice_get entries i ≡ Some o → e.last ≡ ends_at o.returned end

-- a recorded history of the observed one, with points that linearize it; a call under way ends with the history
pub record HasPoints (h : ObservedHistory) (r : Recorded) : Type 0 where
  pub of : IsRecordOfObserved h r
  pub linearized : IsLinearized r
  pub end : ℕ
  pub is_end : IsLastTold h.entries end
  pub ends : AllZip (EndsAsTold h.entries end) of.indices r.entries
