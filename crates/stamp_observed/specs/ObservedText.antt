-- The JSON value that an observed history is written as, and its text.
use Rattle.std.specs.Prelude.{ℕ, List, [], Option, None, Some, map, codes}
use Rattle.serde_json.specs.Data.{Data, array, object, Members, no_members, member}
use Rattle.serde_json.specs.Written.{compact_text}
use Rattle.serde_json.specs.View.{items_of}
use Rattle.stamp_explain.specs.declared.observed.Observation.{Observation}
use Rattle.stamp_explain.specs.declared.observed.Returned.{Returned}
use Rattle.stamp_explain.specs.Observed.{ObservedHistory}
use Rattle.stamp_history.specs.HistoryText.{call_data, with_entries}
use Rattle.stamp_history.specs.ReplayText.{number_data, reply_data}

-- the keys `last` and `reply` stand there where the call has returned
abbrev pub with_return : Option Returned → Members → Members
with_return None rest = rest
with_return (Some r) rest =
    member (codes "last") (number_data r.last)
    (member (codes "reply") (reply_data r.reply) rest)

-- the keys in the order of their bytes
abbrev pub observation_data : Observation → Data
observation_data e =
    object (member (codes "call") (call_data e.call)
    (member (codes "first") (number_data e.first)
    (with_return e.returned
    (member (codes "thread") (number_data e.thread) no_members))))

abbrev pub observations_data : List Observation → Data
observations_data entries = array (items_of (map observation_data entries))

-- that of a history without a report
abbrev pub observed_data : ObservedHistory → Data
observed_data h = with_entries (observations_data h.entries) h.limits h.width []

-- without spaces
unfoldable pub observed_text : ObservedHistory → List ℕ
observed_text h = compact_text (observed_data h)
