-- An observed history as the events of a run: its calls begin and return in the order of their positions.
use Rattle.std.specs.Prelude.{ℕ, ◌≡◌, ◌⊎◌, ◌+◌, ◌*◌, ◌<◌, true, false, List, [], ◌∷◌, slice_get, Option, Some}
use Rattle.std.specs.Prelude.{if◌then◌else◌}
use Rattle.std.specs.List.{All, AllPairs, AllZip, Contains}
use Rattle.stamp_core.specs.Content.{zeros}
use Rattle.stamp_explain.specs.declared.observed.Observation.{Observation}
use Rattle.stamp_explain.specs.declared.observed.Returned.{Returned}
use Rattle.stamp_explain.specs.Observed.{ObservedHistory, IsReturnAt}
use Rattle.stamp_explain.specs.Cut.{cut}
use Rattle.stamp_runs.specs.declared.event.Event.{Event}
use Rattle.stamp_runs.specs.declared.event.Event.TheVariants.{Begins, Returns}
use Rattle.stamp_runs.specs.BothRun.{State}
use Rattle.stamp_runs.specs.Names.{AreDifferent, Names}
use Rattle.stamp_watch.specs.declared.moments.Moment.{Moment}

-- the call of an entry begins at its first position, and returns at its last
abbrev pub beginning_of : ℕ → Observation → Moment
beginning_of i e = record { entry = i; position = e.first; is_return = false }

abbrev pub return_of : ℕ → Returned → Moment
return_of i r = record { entry = i; position = r.last; is_return = true }

-- at one position calls begin before others return: one that begins where another returns is not after it
abbrev pub place_of : Moment → ℕ
place_of m = 2 * m.position + (if m.is_return then 1 else 0)

-- what has one place comes in the order of the entries
abbrev pub ComesFirst : Moment → Moment → Type 0
ComesFirst m n = (place_of m < place_of n) ⊎ ((place_of m ≡ place_of n) × (m.entry < n.entry))

-- at this moment a call begins, by this event; or it returns
pub record IsBeginningAt (entries : List Observation) (m : Moment) (event : Event) : Type 0 where
  pub entry : Observation
  pub is_entry : slice_get entries m.entry ≡ Some entry
  pub moment : m ≡ beginning_of m.entry entry
  pub event_is : event ≡ Begins entry.thread entry.call

pub record IsReturningAt (entries : List Observation) (m : Moment) (event : Event) : Type 0 where
  pub at : IsReturnAt entries m.entry
  pub moment : m ≡ return_of m.entry at.return
  pub event_is : event ≡ Returns at.entry.thread at.return.reply

abbrev pub IsEventAt : List Observation → Moment → Event → Type 0
IsEventAt entries m event = IsBeginningAt entries m event ⊎ IsReturningAt entries m event

abbrev pub IsMomentOf : List Observation → Moment → Type 0
IsMomentOf entries m = (event : Event) × IsEventAt entries m event

-- all moments of these entries in their order, and no other
pub record AreMomentsOf (entries : List Observation) (moments : List Moment) : Type 0 where
  pub each : All (IsMomentOf entries) moments
  pub begun : (i : ℕ) (e : Observation) → slice_get entries i ≡ Some e → Contains moments (beginning_of i e)
  pub returned : (i : ℕ) (at : IsReturnAt entries i) → Contains moments (return_of i at.return)
  pub in_order : AllPairs ComesFirst moments

-- the history's moments, and its events at them
pub record AreEventsOf (h : ObservedHistory) (moments : List Moment) (events : List Event) : Type 0 where
  pub are : AreMomentsOf h.entries moments
  pub events_are : AllZip (IsEventAt h.entries) moments events

-- there is a moment, at which the call of an entry returns
pub record IsReturnOf (entries : List Observation) (there : Option Moment) : Type 0 where
  pub index : ℕ
  pub at : IsReturnAt entries index
  pub moment : there ≡ Some (return_of index at.return)

-- the history up to this moment, without it
abbrev pub cut_to : Moment → ObservedHistory → ObservedHistory
cut_to m h = cut m.position (if m.is_return then m.entry else 0) h

-- different contents have different names, and the content at first that of the number 0
pub record AreNamesFor (h : ObservedHistory) (name : Names) : Type 0 where
  pub different : AreDifferent name
  pub first : name (zeros h.width) ≡ 0 ∷ []

-- the run begins with no event of the lock, and zeros in the record
abbrev pub state_at_first : ObservedHistory → State
state_at_first h = ([], zeros h.width)
