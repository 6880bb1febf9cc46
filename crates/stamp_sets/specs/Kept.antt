-- What numbers and a table of open calls stand for, and what is kept of a run by them.
use Rattle.std.specs.Prelude.{ℕ, ◌≡◌, ◌⊎◌, ◌↔◌, ◌&&◌, ◌||◌, Bool, true, List, length, Option, Some, None}
use Rattle.std.specs.Int.{bit_at}
use Rattle.std.specs.List.{All, Contains}
use Rattle.std.specs.Option.{is_some}
use Rattle.stamp_core.specs.declared.reply.Reply.{Reply}
use Rattle.stamp_runs.specs.Run.{Lanes, Leads, Phase, all_idle}
use Rattle.stamp_runs.specs.Run.Phase.{Asks, Gets, Idle}
use Rattle.stamp_runs.specs.Watching.{StandFor}
use Rattle.stamp_runs.specs.Position.{OfSome, StandsFor}
use Rattle.stamp_runs.specs.Position as run
use Rattle.stamp_runs.specs.declared.event.Event.{Event}
use Rattle.stamp_sets.specs.declared.open_call.OpenCall.{OpenCall}
use Rattle.stamp_sets.specs.declared.position.Position.{Position}
use Rattle.stamp_sets.specs.Judged.{Judged}
use Rattle.stamp_sets.specs.SmallCall.{call_of}
use Rattle.stamp_sets.specs.Told.{ComesAsTold, MayGet, open_at}
use Rattle.stamp_sets.specs.Unchanging.{reads_only}

-- the open call of a lane is not in effect, by its bit; or it is, with a reply that it may get
pub record IsBegun (begun : OpenCall) (bit : ℕ) (phase : Phase) : Type 0 where
  pub free : bit ≡ 0
  pub asks : phase ≡ Asks (call_of begun.asks)

pub record IsInEffect (begun : OpenCall) (bit : ℕ) (phase : Phase) : Type 0 where
  pub taken : bit ≡ 1
  pub reply : Reply
  pub may : MayGet begun.ends reply
  pub gets : phase ≡ Gets reply

-- the phase of a lane with this open call, or none
abbrev pub HasPhase : Option OpenCall → ℕ → Phase → Type 0
HasPhase None bit phase = phase ≡ Idle
HasPhase (Some begun) bit phase = IsBegun begun bit phase ⊎ IsInEffect begun bit phase

-- an open call may be free, where any is: it overwrites, or it returns with a reply by which it changes nothing
abbrev pub may_be_free : {S : Type 0} → Judged S → OpenCall → Bool
may_be_free o begun = o.frees && (is_some (o.overwrites begun) || reads_only begun)

-- it is open, not in effect, and may be free
pub record IsFreeCall {S : Type 0} (o : Judged S) (slot : Option OpenCall) (bit : ℕ) : Type 0 where
  pub begun : OpenCall
  pub is_open : slot ≡ Some begun
  pub waits : bit ≡ 0
  pub kind : may_be_free o begun ≡ true

-- the numbers read as this position; calls are free that may be
pub record Reads {S : Type 0} (o : Judged S) (table : List (Option OpenCall)) (p : Position) (q : run.Position S) :
    Type 0 where
  pub state : o.holds p.state q.state
  pub lanes : (lane : ℕ) → HasPhase (open_at table lane) (bit_at p.in_effect lane) (q.lanes lane)
  pub free : (lane : ℕ) → (q.free lane ≡ true) ↔ (bit_at p.free lane ≡ 1)
  pub kinds : (lane : ℕ) → bit_at p.free lane ≡ 1 → IsFreeCall o (open_at table lane) (bit_at p.in_effect lane)

-- all that a position stands for is possible after these events
abbrev pub MayBe : {S : Type 0} → Judged S → List Event → run.Position S → Type 0
MayBe {S} o past q = (s : S) (lanes : Lanes) → StandsFor o.step q s lanes → Leads o.step past o.start all_idle s lanes

-- one of these numbers reads so
pub record ReadsOne {S : Type 0} (o : Judged S) (table : List (Option OpenCall)) (kept : List Position)
    (q : run.Position S) : Type 0 where
  pub numbers : Position
  pub among : Contains kept numbers
  pub reads : Reads o table numbers q

-- the positions that are kept: those that read so, and may be
pub record IsKept {S : Type 0} (o : Judged S) (past : List Event) (table : List (Option OpenCall))
    (kept : List Position) (q : run.Position S) : Type 0 where
  pub is : ReadsOne o table kept q
  pub may_be : MayBe o past q

-- the numbers read as a position that may be
pub record IsPossible {S : Type 0} (o : Judged S) (past : List Event) (table : List (Option OpenCall)) (p : Position) :
    Type 0 where
  pub position : run.Position S
  pub reads : Reads o table p position
  pub may_be : MayBe o past position

-- after these events: each of the numbers is possible, and what they read as stands for the run
pub record AreKept {S : Type 0} (o : Judged S) (past : List Event) (table : List (Option OpenCall)) (last : ℕ)
    (kept : List Position) : Type 0 where
  pub lanes : length table ≡ 64
  pub possible : All (IsPossible o past table) kept
  pub stand : StandFor o.step o.start past (ComesAsTold (open_at table) last) (OfSome o.step (IsKept o past table kept))
