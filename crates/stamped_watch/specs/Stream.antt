-- The bytes of a stream: a header, and then events; and the run that it is.
use Rattle.std.specs.Prelude.{ℕ, ◌≡◌, ◌<◌, ◌≤◌, ◌⊎◌, ◌++◌, List, [], ◌∷◌, Option, length, map, take, drop, unwrap_or}
use Rattle.std.specs.List.{All}
use Rattle.stamp_core.specs.Content.{zeros}
use Rattle.stamp_runs.specs.Names.{AreDifferent, EachOfEvent, Names, event_by}
use Rattle.stamp_runs.specs.declared.event.Event.{Event}
use Rattle.stamp_watch.specs.Names.{AreContents, IsNamed, name_in}
use Rattle.stamped_watch.specs.declared.header.Header.{Header}
use Rattle.stamped_watch.specs.EventBytes.{HasBytes, HasFront, size_of}
use Rattle.stamped_watch.specs.Header.{IsHeader}

-- these are the bytes of the events, one behind the other
abbrev pub HaveBytes : Option ℕ → List Event → List ℕ → Type 0
HaveBytes width [] bytes = bytes ≡ []
HaveBytes width (e ∷ events) bytes =
    HasBytes width e (take (size_of e) bytes) × HaveBytes width events (drop (size_of e) bytes)

-- the bytes are a header, these events, and a rest
pub record IsStream (bytes : List ℕ) (header : Header) (events : List Event) (rest : List ℕ) : Type 0 where
  pub head : List ℕ
  pub units : List ℕ
  pub parts : bytes ≡ head ++ units ++ rest
  pub header_is : IsHeader header head
  pub events_are : HaveBytes header.width events units

-- the bytes begin with no event
abbrev pub BeginsNoEvent : Option ℕ → List ℕ → Type 0
BeginsNoEvent width bytes = (e : Event) → ¬ HasBytes width e (take (size_of e) bytes)

-- they begin an event, which has more
pub record BeginsEvent (width : Option ℕ) (bytes : List ℕ) : Type 0 where
  pub many : 16 ≤ length bytes
  pub event : Event
  pub front : HasFront width event (take 16 bytes)
  pub longer : (e : Event) → HasFront width e (take 16 bytes) → length bytes < size_of e

-- they are a part of an event, which may be nothing
abbrev pub IsPartOfEvent : Option ℕ → List ℕ → Type 0
IsPartOfEvent width bytes = (length bytes < 16) ⊎ BeginsEvent width bytes

-- how many words the record has; that of a stream without data, which no call asks for, has one
abbrev pub words_of_record : Option ℕ → ℕ
words_of_record width = unwrap_or width 1

-- a run is that of these events by other names of their contents: different contents have different names, and that
-- at first, zeros, is 0
pub record IsByNames (width : Option ℕ) (events run : List Event) : Type 0 where
  pub names : Names
  pub different : AreDifferent names
  pub first : names (zeros (words_of_record width)) ≡ 0 ∷ []
  pub run_is : run ≡ map (event_by names) events

-- the bytes are a header, the events of such a run, and a rest
pub record IsRunIn (bytes : List ℕ) (header : Header) (run : List Event) (rest : List ℕ) : Type 0 where
  pub events : List Event
  pub stream : IsStream bytes header events rest
  pub named : IsByNames header.width events run

-- its events go by the numbers of these contents, and each content has one
pub record IsRunBy (contents : List (List ℕ)) (bytes : List ℕ) (header : Header) (run : List Event) (rest : List ℕ) :
    Type 0
  where
    pub events : List Event
    pub stream : IsStream bytes header events rest
    pub contents_are : AreContents (words_of_record header.width) contents
    pub named : All (EachOfEvent (IsNamed contents)) events
    pub run_is : run ≡ map (event_by (name_in contents)) events
