-- What the lock was, and what the record held, after entries: what the core counts in the events of
-- their calls, and the content that these leave.
use Rattle.std.specs.Prelude.{ℕ, ◌==◌, List, [], ◌∷◌, ◌++◌, Option, Some, None, if◌then◌else◌}
use Rattle.stamp_core.specs.LockEvent.{Counts, counts}
use Rattle.stamp_core.specs.Limits.{Bounds}
use Rattle.stamp_core.specs.History.{History, events_of, content_after}
use Rattle.stamp_core.specs.Linearized.{history_of}
use Rattle.stamp_core.specs.declared.entry.Entry.{Entry}
use Rattle.stamp_picture.specs.declared.state.Mode.{Mode}
use Rattle.stamp_picture.specs.declared.state.Mode.TheVariants.{Free, Reading, Writing}
use Rattle.stamp_picture.specs.declared.state.State.{State}
use Rattle.stamp_picture.specs.declared.state.Moment.{Moment}
use Rattle.stamp_picture.specs.declared.window.Window.{Window}
use Rattle.stamp_picture.specs.Window.{contains, precedes}

-- a writer, nobody, or so many readers
abbrev pub mode_of : Counts → Mode
mode_of c = if c.writers == 1 then Writing else if c.readers == 0 then Free else Reading c.readers

-- nothing where there is no record
abbrev pub content_if_any : ℕ → History → Option (List ℕ)
content_if_any width history = if width == 0 then None else Some (content_after width history)

abbrev pub state_of : ℕ → Counts → History → State
state_of width c history = record {
  mode = mode_of c;
  version = c.write_count;
  content = content_if_any width history;
}

-- the state that these entries leave
unfoldable pub state_after : Bounds → ℕ → List Entry → State
state_after limits width before =
    state_of width (counts (events_of limits (history_of before))) (history_of before)

abbrev pub moment_after : Bounds → ℕ → List Entry → Entry → Moment
moment_after limits width before e = record { point = e.point; state = state_after limits width (before ++ e ∷ []) }

-- the moment after each of these entries whose point is in the window, in order; others came before them
abbrev pub moments_from : Bounds → ℕ → Window → List Entry → List Entry → List Moment
moments_from limits width w before [] = []
moments_from limits width w before (e ∷ es) =
    if contains w e.point
    then moment_after limits width before e ∷ moments_from limits width w (before ++ e ∷ []) es
    else moments_from limits width w (before ++ e ∷ []) es

abbrev pub moments_of : Bounds → ℕ → Window → List Entry → List Moment
moments_of limits width w entries = moments_from limits width w [] entries

-- the state that the last of these entries left whose point is before the window, or this one
abbrev pub opening_from : Bounds → ℕ → Window → State → List Entry → List Entry → State
opening_from limits width w state before [] = state
opening_from limits width w state before (e ∷ es) =
    opening_from limits width w
    (if precedes e.point w then state_after limits width (before ++ e ∷ []) else state) (before ++ e ∷ []) es

-- a new lock's, where no point is before the window
abbrev pub opening_state : Bounds → ℕ → Window → List Entry → State
opening_state limits width w entries = opening_from limits width w (state_after limits width []) [] entries
