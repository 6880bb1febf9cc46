-- The laws of replies of an observed history: which are possible, by the run of its events, and which never are.
use Rattle.std.specs.Prelude.{ℕ, ◌≡◌, ◌≤◌, ◌++◌, ◌↔◌, List, [], ◌∷◌, Some, length, map, slice_get, take}
use Rattle.stamp_core.specs.declared.reply.Reply.{Reply}
use Rattle.stamp_explain.specs.Explained.{IsExplained}
use Rattle.stamp_explain.specs.Observed.{ObservedHistory, IsObserved, IsReturnAt}
use Rattle.stamp_explain.specs.Possible.{IsPossible}
use Rattle.stamp_runs.specs.BothRun.{AreExplained}
use Rattle.stamp_runs.specs.Names.{EachOfReply, Names, event_by, reply_by}
use Rattle.stamp_runs.specs.declared.event.Event.{Event}
use Rattle.stamp_runs.specs.declared.event.Event.TheVariants.{Returns}
use Rattle.stamp_watch.specs.AsEvents.{AreEventsOf, AreNamesFor, return_of}
use Rattle.stamp_watch.specs.declared.moments.Moment.{Moment}

-- a record of this width may hold these words
pub record IsContentOf (width : ℕ) (words : List ℕ) : Type 0 where
  pub some : 1 ≤ width
  pub wide : length words ≡ width

-- A reply of an observed history is possible exactly where its run by numbers is explained up to the return, with the
-- reply there.
abbrev pub PossibleByNumbers : Type 0
PossibleByNumbers =
    (h : ObservedHistory) (moments : List Moment) (events : List Event) (name : Names) (i k : ℕ)
    (at : IsReturnAt h.entries i) (reply : Reply) → IsObserved h → AreEventsOf h moments events → AreNamesFor h name →
    slice_get moments k ≡ Some (return_of i at.return) →
    IsPossible h i reply ↔
    AreExplained h.limits (map (event_by name) (take k events) ++ Returns at.entry.thread (reply_by name reply) ∷ [])

-- A content that an explained history tells in a reply is one that its record may hold.
abbrev pub RepliesAreOfRecord : Type 0
RepliesAreOfRecord =
    (h : ObservedHistory) (i : ℕ) (at : IsReturnAt h.entries i) → IsObserved h → IsExplained h →
    EachOfReply (IsContentOf h.width) at.return.reply
