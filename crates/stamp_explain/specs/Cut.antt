-- A history up to one of its returns, and the first return at which it is no longer explained.
use Rattle.std.specs.Prelude.{ℕ, ◌+◌, ◌==◌, ◌&&◌, ◌||◌, nat_lt, Bool, false, List, [], ◌∷◌}
use Rattle.std.specs.Prelude.{Option, Some, None, if◌then◌else◌, filter, not}
use Rattle.stamp_explain.specs.declared.observed.Observation.{Observation}
use Rattle.stamp_explain.specs.declared.observed.Returned.{Returned}
use Rattle.stamp_explain.specs.Observed.{ObservedHistory, IsReturnAt}
use Rattle.stamp_explain.specs.Explained.{IsExplained}

-- entry i returned before this position, or at it and i is below the bound
abbrev pub returned_by : ℕ → ℕ → ℕ → Option Returned → Bool
returned_by last bound i None = false
returned_by last bound i (Some r) = nat_lt r.last last || ((r.last == last) && nat_lt i bound)

-- what returned later is still under way
abbrev pub cut_entry : ℕ → ℕ → ℕ → Observation → Observation
cut_entry last bound i e = if returned_by last bound i e.returned then e else record e { returned = None }

abbrev pub cut_entries : ℕ → ℕ → ℕ → List Observation → List Observation
cut_entries last bound i [] = []
cut_entries last bound i (e ∷ es) = cut_entry last bound i e ∷ cut_entries last bound (i + 1) es

-- the history up to there. A call that begins later is under way here too, which explains no more:
-- all that returned is before it
abbrev pub cut : ℕ → ℕ → ObservedHistory → ObservedHistory
cut last bound h = record h { entries = cut_entries last bound 0 h.entries }

-- up to the return of this entry, with it and without it
abbrev pub cut_after : Returned → ℕ → ObservedHistory → ObservedHistory
cut_after r i h = cut r.last (i + 1) h

abbrev pub cut_before : Returned → ℕ → ObservedHistory → ObservedHistory
cut_before r i h = cut r.last i h

-- of these calls, those that had begun by this position
abbrev pub begun_by : ℕ → List Observation → List Observation
begun_by last es = filter (λ (e : Observation). not (nat_lt last e.first)) es

-- what an observer has seen then: a call that begins later isn't there
abbrev pub seen_at : ℕ → ℕ → ObservedHistory → ObservedHistory
seen_at last bound h = record h { entries = begun_by last (cut_entries last bound 0 h.entries) }

-- the history is explained until this entry returns, and no longer
pub record IsStuck (h : ObservedHistory) (i : ℕ) : Type 0 where
  pub at : IsReturnAt h.entries i
  pub explained : IsExplained (cut_before at.return i h)
  pub stuck : ¬ IsExplained (cut_after at.return i h)
