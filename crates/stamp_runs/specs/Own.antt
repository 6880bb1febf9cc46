-- The events of one object's own calls, among those of all.
use Rattle.std.specs.Prelude.{ℕ, ◌≡◌, ◌+◌, ◌==◌, Bool, false, List, [], ◌∷◌, Option, Some, None, IsSome}
use Rattle.std.specs.Prelude.{if◌then◌else◌}
use Rattle.std.specs.List.{fold}
use Rattle.stamp_core.specs.declared.call.Call.{Call}
use Rattle.stamp_runs.specs.declared.event.Event.{Event}
use Rattle.stamp_runs.specs.declared.event.Event.TheVariants.{Begins, Returns, Withdraws}

-- the calls that are open after an event, by lane
abbrev pub open_then : (ℕ → Option Call) → Event → ℕ → Option Call
open_then calls (Begins lane call) other = if lane == other then Some call else calls other
open_then calls (Returns lane reply) other = if lane == other then None else calls other
open_then calls (Withdraws lane) other = if lane == other then None else calls other

-- a call begins where none is open, and ends where one is
abbrev pub MayCome : (ℕ → Option Call) → Event → Type 0
MayCome calls (Begins lane call) = calls lane ≡ None
MayCome calls (Returns lane reply) = IsSome (calls lane)
MayCome calls (Withdraws lane) = IsSome (calls lane)

-- each of these events may come after those before it
abbrev pub AreInFormFrom : (ℕ → Option Call) → List Event → Type 0
AreInFormFrom calls [] = Unit {0}
AreInFormFrom calls (event ∷ events) = MayCome calls event × AreInFormFrom (open_then calls event) events

abbrev pub is_own_call : (Call → Bool) → Option Call → Bool
is_own_call mine None = false
is_own_call mine (Some call) = mine call

-- the event is of one of these calls
abbrev pub is_own : (Call → Bool) → (ℕ → Option Call) → Event → Bool
is_own mine calls (Begins lane call) = mine call
is_own mine calls (Returns lane reply) = is_own_call mine (calls lane)
is_own mine calls (Withdraws lane) = is_own_call mine (calls lane)

abbrev pub own_from : (Call → Bool) → (ℕ → Option Call) → List Event → List Event
own_from mine calls [] = []
own_from mine calls (event ∷ events) =
    if is_own mine calls event then event ∷ own_from mine (open_then calls event) events
    else own_from mine (open_then calls event) events

-- their numbers among those of all events, the first of which has this one
abbrev pub own_numbers_from : (Call → Bool) → (ℕ → Option Call) → ℕ → List Event → List ℕ
own_numbers_from mine calls n [] = []
own_numbers_from mine calls n (event ∷ events) =
    if is_own mine calls event then n ∷ own_numbers_from mine (open_then calls event) (n + 1) events
    else own_numbers_from mine (open_then calls event) (n + 1) events

-- so it is from the opening on, where no call is open
abbrev pub none_open : ℕ → Option Call
none_open lane = None

abbrev pub AreInForm : List Event → Type 0
AreInForm events = AreInFormFrom none_open events

abbrev pub own_events : (Call → Bool) → List Event → List Event
own_events mine events = own_from mine none_open events

abbrev pub own_numbers : (Call → Bool) → List Event → List ℕ
own_numbers mine events = own_numbers_from mine none_open 0 events

-- the call that is open in each lane after these events
abbrev pub open_after : List Event → ℕ → Option Call
open_after events = fold open_then none_open events
