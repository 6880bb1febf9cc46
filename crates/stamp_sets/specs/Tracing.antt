-- A watch that keeps how its positions were come to: the entries of a half's trail, the moves that are read back from
-- them, and the number of each of its own events among all.
use Rattle.std.specs.Prelude.{ℕ, ◌≡◌, ◌≢◌, ◌<◌, ◌⊎◌, ◌+◌, ◌==◌, ◌&&◌, ◌++◌, Bool, true, false, not, List, [], ◌∷◌, map}
use Rattle.std.specs.Prelude.{reverse, length, Option, None, if◌then◌else◌}
use Rattle.std.specs.Int.{bit_at}
use Rattle.std.specs.List.{Contains}
use Rattle.std.proofs.Common.{zero, suc}
use Rattle.stamp_core.specs.Call.{is_lock_call}
use Rattle.stamp_core.specs.declared.call.Call.{Call}
use Rattle.stamp_core.specs.declared.reply.Reply.{Reply}
use Rattle.stamp_runs.specs.Own.{own_events, own_numbers}
use Rattle.stamp_runs.specs.declared.event.Event.{Event}
use Rattle.stamp_runs.specs.Position as run
use Rattle.stamp_runs.specs.Trace.{IsTrace, Move, taken_at}
use Rattle.stamp_runs.specs.Trace.Move.{Takes as taking, Frees as freeing, Hides as hiding}
use Rattle.stamp_sets.specs.declared.half.Half.{Half}
use Rattle.stamp_sets.specs.declared.open_call.OpenCall.{OpenCall}
use Rattle.stamp_sets.specs.declared.position.Position.{Position}
use Rattle.stamp_sets.specs.declared.trace.Trace.{Trace}
use Rattle.stamp_sets.specs.declared.trail.Entry.{Entry}
use Rattle.stamp_sets.specs.declared.trail.Entry.TheVariants.{Begins, Withdraws, Returns, Comes}
use Rattle.stamp_sets.specs.declared.trail.Link.{Link}
use Rattle.stamp_sets.specs.declared.trail.Way.{Way}
use Rattle.stamp_sets.specs.declared.trail.Way.TheVariants.{Fixes, Takes, Frees, Hides}
use Rattle.stamp_sets.specs.declared.watch.Watch.{Watch}
use Rattle.stamp_sets.specs.Judged.{Judged, judged}
use Rattle.stamp_sets.specs.Kept.{Reads}
use Rattle.stamp_sets.specs.Lanes.{SetsBit}
use Rattle.stamp_sets.specs.Told.{open_at}
use Rattle.stamp_sets.specs.Watch.{IsWatching, is_record_call}

-- the call of this lane is in effect in the first position, and the other is the first without it
pub record IsReturnedFrom (lane : ℕ) (p q : Position) : Type 0 where
  pub taken : bit_at p.in_effect lane ≡ 1
  pub state : q.state ≡ p.state
  pub clears : SetsBit p.in_effect q.in_effect lane 0
  pub free : q.free ≡ p.free

-- another lane's call took effect with it
abbrev pub is_reader : Link → ℕ → Bool
is_reader link v = not (v == link.lane) && ((bit_at link.to.in_effect v == 1) && (bit_at link.from.in_effect v == 0))

-- the lanes of those calls, of so many lanes from this one on
unfoldable pub readers_from : Link → ℕ → ℕ → List ℕ
readers_from link k zero = []
readers_from link k (suc n) = if is_reader link k then k ∷ readers_from link (k + 1) n
    else readers_from link (k + 1) n

unfoldable pub readers_of : Link → List ℕ
readers_of link = readers_from link 0 64

-- the events of a trail, whose newest entry is the first one
abbrev pub events_in : List Entry → ℕ
events_in [] = 0
events_in (Begins lane ∷ older) = events_in older + 1
events_in (Withdraws ∷ older) = events_in older + 1
events_in (Returns lane ∷ older) = events_in older + 1
events_in (Comes link ∷ older) = events_in older

-- calls that read take effect in their order, at this point
abbrev pub read_at : ℕ → List (ℕ × Reply) → List Move → List Move
read_at point [] moves = moves
read_at point (x ∷ readers) moves = read_at point readers (taking (taken_at point x) ∷ moves)

abbrev pub lane_in : ℕ × Reply → ℕ
lane_in x = x.0

-- the moves of a link with these replies, and those before it
abbrev pub moves_by : Way → ℕ → ℕ → Reply → List (ℕ × Reply) → List Move → List Move
moves_by Fixes point lane reply readers older = older
moves_by Takes point lane reply readers older =
    read_at point readers (taking (taken_at point (lane, reply)) ∷ older)
moves_by Frees point lane reply readers older =
    read_at point readers (freeing (taken_at point (lane, reply)) ∷ older)
moves_by Hides point lane reply readers older = hiding ((lane, reply) ∷ readers) ∷ older

-- so it is, of the calls that took effect between its positions
pub record IsSaidBy (point : ℕ) (link : Link) (older moves : List Move) : Type 0 where
  pub reply : Reply
  pub readers : List (ℕ × Reply)
  pub lanes : map lane_in readers ≡ readers_of link
  pub are : moves ≡ moves_by link.way point link.lane reply readers older

-- these are the moves to the position, as a trail says it whose newest entry is the first one
abbrev pub Says : List Entry → Position → List Move → Type 0
Says [] x moves = moves ≡ []
Says (Begins lane ∷ older) x moves = (lane < 64) × (((bit_at x.in_effect lane ≢ 1) × Says older x moves) ⊎
    (y : Position) × (before : List Move) × (reply : Reply) × IsReturnedFrom lane x y ×
    (moves ≡ taking (taken_at (events_in older + 1) (lane, reply)) ∷ before) × Says older y before)
Says (Withdraws ∷ older) x moves = Says older x moves
Says (Returns lane ∷ older) x moves = (lane < 64) × (y : Position) × IsReturnedFrom lane y x × Says older y moves
Says (Comes link ∷ older) x moves = ((x ≢ link.to) × Says older x moves) ⊎ (x ≡ link.to) ×
    (before : List Move) × IsSaidBy (events_in older) link before moves × Says older link.from before

-- by such moves the opening leads to what the numbers read as; no lane without a call has its bit set
pub record IsTracedBy {S : Type 0} (o : Judged S) (past : List Event) (table : List (Option OpenCall))
    (trail : List Entry) (x : Position) : Type 0 where
  pub full : length table ≡ 64
  pub events : events_in trail ≡ length past
  pub position : run.Position S
  pub reads : Reads o table x position
  pub moves : List Move
  pub trace : IsTrace o.step o.start past moves position
  pub says : Says trail x moves
  pub idle : (v : ℕ) → open_at table v ≡ None → bit_at x.in_effect v ≡ 0

-- of a half after its own events: each of its positions is traced
pub record KeepsTrace (past : List Event) (half : Half) (trace : Trace) : Type 0 where
  pub on : trace.is_on ≡ true
  pub each : (x : Position) → Contains half.positions.items x →
      IsTracedBy (judged half.object) past half.table.items (reverse trace.entries) x

-- so it is of the events of these calls, whose numbers among all events it has
pub record TracesOwn (mine : Call → Bool) (past : List Event) (half : Half) (trace : Trace) : Type 0 where
  pub keeps : KeepsTrace (own_events mine past) half trace
  pub numbers : trace.numbers ≡ own_numbers mine past

-- what a watch that is traced keeps after these events
pub record IsTracing (past : List Event) (watch : Watch) : Type 0 where
  pub watching : IsWatching past watch
  pub lock : TracesOwn is_lock_call past watch.lock watch.lock_trace
  pub «record» : TracesOwn is_record_call past watch.record watch.record_trace

-- what was traced is so after one event more
abbrev pub StaysTraced : Event → Watch → Watch → Type 0
StaysTraced event old new = (past : List Event) → IsTracing past old → IsTracing (past ++ event ∷ []) new

-- no order is told of a watch that is not traced, or of which a half has no position
abbrev pub HasNoOrder : Watch → Type 0
HasNoOrder watch = (watch.lock_trace.is_on ≡ false) ⊎ ((watch.lock.positions.items ≡ []) ⊎
    (watch.record.positions.items ≡ []))
