-- The laws of observed histories, over the definitions alone.
use Rattle.std.specs.Prelude.{ℕ, ◌≡◌, ◌↔◌}
use Rattle.stamp_explain.specs.Observed.{ObservedHistory, IsObserved}
use Rattle.stamp_explain.specs.Observed.{of_lock, of_record}
use Rattle.stamp_explain.specs.Explained.{IsExplained}
use Rattle.stamp_core.specs.Record.{Recorded}
use Rattle.stamp_core.specs.Linearized.{IsLinearized}
use Rattle.stamp_explain.specs.Points.{IsRecordOfObserved}
use Rattle.stamp_explain.specs.Cut.{cut, seen_at, IsStuck}

-- Each cut of an explained history is explained.
abbrev pub CutsStayExplained : Type 0
CutsStayExplained = (h : ObservedHistory) (last bound : ℕ) → IsExplained h → IsExplained (cut last bound h)

-- What an observer has seen by a position is an observed history of its own, and explained exactly where the cut is.
abbrev pub SeenExplainsAsMuch : Type 0
SeenExplainsAsMuch =
    (h : ObservedHistory) (last bound : ℕ) → IsObserved h →
    IsObserved (seen_at last bound h) × (IsExplained (cut last bound h) ↔ IsExplained (seen_at last bound h))

-- What is explained is stuck nowhere.
abbrev pub ExplainedIsNotStuck : Type 0
ExplainedIsNotStuck = (h : ObservedHistory) (i : ℕ) → IsExplained h → ¬ IsStuck h i

-- A history is stuck at one return at most.
abbrev pub OneStuck : Type 0
OneStuck = (h : ObservedHistory) (i j : ℕ) → IsStuck h i → IsStuck h j → i ≡ j

-- A recorded history of an observed one that is linearized explains it.
abbrev pub PointsExplain : Type 0
PointsExplain = (h : ObservedHistory) (r : Recorded) → IsRecordOfObserved h r → IsLinearized r → IsExplained h

-- And each one that is explained has such a recorded history.
abbrev pub ExplainedHasPoints : Type 0
ExplainedHasPoints = (h : ObservedHistory) → IsObserved h → IsExplained h →
    (r : Recorded) × (IsRecordOfObserved h r × IsLinearized r)

-- Lock and record may be judged apart, each by the history of its own calls: linearizability is local.
abbrev pub JudgedApart : Type 0
JudgedApart =
    (h : ObservedHistory) → IsObserved h →
    (IsObserved (of_lock h) × IsObserved (of_record h)) ×
    (IsExplained h ↔ (IsExplained (of_lock h) × IsExplained (of_record h)))
