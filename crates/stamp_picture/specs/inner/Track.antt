-- Where the track through a history is.
use Rattle.std.specs.Prelude.{ℕ, ◌≡◌, ◌<◌, List, [], ◌∷◌, ◌++◌, Option, IsTrue}
use Rattle.stamp_core.specs.Limits.{Bounds, AreInRange}
use Rattle.stamp_core.specs.Word.{Represents}
use Rattle.stamp_core.specs.Call.{call_suits}
use Rattle.stamp_core.specs.History.{events_of, content_after}
use Rattle.stamp_core.specs.Linearized.{history_of}
use Rattle.stamp_core.specs.declared.call.Call.{Call}
use Rattle.stamp_core.specs.declared.entry.Entry.{Entry}
use Rattle.stamp_core.specs.declared.reply.Reply.{Reply}
use Rattle.stamp_picture.specs.declared.track.Track.{Track}
use Rattle.stamp_picture.specs.declared.state.State.{State}
use Rattle.stamp_picture.specs.Moment.{state_after}
use Rattle.stamp_picture.specs.Due.{IsReplyDue}

-- the track is behind these entries
pub record IsTrack (limits : Bounds) (width : ℕ) (before : List Entry) (track : Track) : Type 0 where
  pub range : AreInRange limits
  pub word : Represents limits track.word (events_of limits (history_of before))
  pub content : 0 < width → track.content ≡ content_after width (history_of before)

-- behind one entry more
pub record TracksOneMore (limits : Bounds) (e : Entry) (track next : Track) : Type 0 where
  pub behind : (width : ℕ) (before : List Entry) → IsTrack limits width before track →
      IsTrack limits width (before ++ e ∷ []) next

-- the state after the entries that the track is behind
pub record Shows (limits : Bounds) (width : ℕ) (track : Track) (state : State) : Type 0 where
  pub is : (before : List Entry) → IsTrack limits width before track → state ≡ state_after limits width before

-- the reply that is due after them, to a call that suits the width
pub record TellsDue (limits : Bounds) (track : Track) (call : Call) (due : Option Reply) : Type 0 where
  pub is : (width : ℕ) (before : List Entry) → IsTrack limits width before track → IsTrue (call_suits width call) →
      IsReplyDue limits width before call due
