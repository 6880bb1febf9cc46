-- The contents of a record by numbers, which are names for them.
use Rattle.std.specs.Prelude.{ℕ, ◌≡◌, ◌<◌, ◌≤◌, ◌++◌, List, [], ◌∷◌, Option, Some, MatchOption, length, position}
use Rattle.std.specs.Prelude.{Vec, map, slice_get, slice_index_or, unwrap_or}
use Rattle.std.specs.declared.alloc.Global.{Global}
use Rattle.std.specs.List.{All}
use Rattle.std.specs.Option.{option_map_or}
use Rattle.stamp_core.specs.Content.{same_words, zeros}
use Rattle.stamp_runs.specs.Names.{EachOfEvent, Names, event_by}
use Rattle.stamp_runs.specs.Run.{lane_of}
use Rattle.stamp_runs.specs.declared.event.Event.{Event}

-- the contents that are kept
abbrev pub rows : List (Vec ℕ Global) → List (List ℕ)
rows contents = map (λ (words : Vec ℕ Global). words.items) contents

-- a content is told by its number, as one word; one that has none by two zeros and its words
abbrev pub name_in : List (List ℕ) → Names
name_in contents words =
    option_map_or (λ (n : ℕ). n ∷ []) (position (same_words words) contents) (0 ∷ 0 ∷ words)

-- back again: the content of which the one word is the number, and any other words as they are
abbrev pub words_in : List (List ℕ) → Names
words_in contents (number ∷ []) = unwrap_or (slice_get contents number) (number ∷ [])
words_in contents words = words

abbrev pub IsNumberOf : List (List ℕ) → List ℕ → ℕ → Type 0
IsNumberOf contents words number = name_in contents words ≡ number ∷ []

-- of how many words the content at first is
abbrev pub width_of : List (List ℕ) → ℕ
width_of contents = length (slice_index_or contents 0 [])

-- the content at first is of so many zeros, 1 to 16, and all are as wide
pub record AreContents (width : ℕ) (contents : List (List ℕ)) : Type 0 where
  pub first : slice_get contents 0 ≡ Some (zeros width)
  pub some : 1 ≤ width
  pub few : width ≤ 16
  pub wide : All (λ (words : List ℕ). length words ≡ width) contents

abbrev pub StaysWide : List (List ℕ) → List (List ℕ) → Type 0
StaysWide old new = (width : ℕ) → AreContents width old → AreContents width new

-- more contents stand behind them
pub record IsGrown (old new : List (List ℕ)) : Type 0 where
  pub more : List (List ℕ)
  pub are : new ≡ old ++ more

-- the content has a number
abbrev pub IsNamed : List (List ℕ) → List ℕ → Type 0
IsNamed contents words = (number : ℕ) × (name_in contents words ≡ number ∷ [])

abbrev pub IsWide : ℕ → List ℕ → Type 0
IsWide width words = length words ≡ width

-- the event by the numbers of its contents; or its lane is none of 256, or it has a content of another width
pub record IsEventBy (contents : List (List ℕ)) (event small : Event) : Type 0 where
  pub named : EachOfEvent (IsNamed contents) event
  pub small_is : small ≡ event_by (name_in contents) event

abbrev pub IsByNumber : List (List ℕ) → List (List ℕ) → Event → Option Event → Type 0
IsByNumber old new event small = MatchOption small
    (¬ ((lane_of event < 256) × EachOfEvent (IsWide (width_of old)) event)) (IsEventBy new event)
