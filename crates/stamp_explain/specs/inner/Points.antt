-- A linearization; the point of a call in it, and its entry in the recorded history.
use Rattle.std.specs.Prelude.{ℕ, ◌≡◌, ◌*◌, List, map, nat_lt, if◌then◌else◌}
use Rattle.stamp_core.specs.declared.entry.Entry.{Entry}
use Rattle.stamp_core.specs.declared.reply.Reply.{Reply}
use Rattle.stamp_explain.specs.declared.observed.Observation.{Observation}
use Rattle.stamp_explain.specs.declared.points.OrderedCall.{OrderedCall}
use Rattle.stamp_explain.specs.Observed.{ObservedHistory}
use Rattle.stamp_explain.specs.Explained.{Effect, IsExplainedBy}
use Rattle.stamp_explain.specs.Points.{ends_at}

-- the indices and replies of an order
abbrev pub ordered_calls : List Effect → List OrderedCall
ordered_calls order = map (λ (x : Effect). record { index = x.index; reply = x.reply }) order

-- these are the indices and replies of an order that explains the history: a linearization of it
pub record IsLinearizationOf (h : ObservedHistory) (calls : List OrderedCall) : Type 0 where
  pub order : List Effect
  pub explains : IsExplainedBy h order
  pub are : calls ≡ ordered_calls order

-- the position at which a call takes effect, after one at this position: where it begins, if that is later
abbrev pub position_at : ℕ → ℕ → ℕ
position_at q first = if nat_lt q first then first else q

-- and how many took effect there earlier
abbrev pub earlier_at : ℕ → ℕ → ℕ → ℕ
earlier_at q n first = if nat_lt q first then 0 else n

abbrev pub entry_with_point : Observation → Reply → ℕ → ℕ → Entry
entry_with_point e reply end p = record {
  thread = e.thread;
  call = e.call;
  reply = reply;
  first = 64 * e.first;
  point = p;
  last = ends_at e.returned end;
}
