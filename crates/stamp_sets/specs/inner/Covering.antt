-- Positions that others cover.
use Rattle.std.specs.Prelude.{ℕ, ◌≡◌, ◌≢◌, ◌<◌, ◌≤◌, true, List, length, slice_index_or, Option, Some}
use Rattle.std.specs.Int.{bit_at}
use Rattle.stamp_runs.specs.declared.event.Event.{Event}
use Rattle.stamp_sets.specs.declared.covering.Kinds.{Kinds}
use Rattle.stamp_sets.specs.declared.ending.Ending.TheVariants.{Never}
use Rattle.stamp_sets.specs.declared.open_call.OpenCall.{OpenCall}
use Rattle.stamp_sets.specs.declared.position.Position.{Position}
use Rattle.stamp_sets.specs.Judged.{Judged}
use Rattle.stamp_sets.specs.Kept.{AreKept}
use Rattle.stamp_sets.specs.Told.{HasEachOpen, open_at}
use Rattle.stamp_sets.specs.Unchanging.{reads_only}
use Rattle.stamp_sets.specs.inner.Start.{Includes}

-- what the call of a lane is in one position covers what it is in the other: both are the same, or it is also free in
-- the first; it is free there and overwrites; it is in effect there, and returns with a reply by which it changes
-- nothing; or it is in effect in the other, and never ends
pub data CoversIn {S : Type 0} (o : Judged S) (begun : OpenCall) (lane : ℕ) (first other : Position) : Type 0 where
  is_same : bit_at other.in_effect lane ≡ bit_at first.in_effect lane →
      (bit_at other.free lane ≡ 1 → bit_at first.free lane ≡ 1) → CoversIn o begun lane first other
  is_free : (number : ℕ) → o.overwrites begun ≡ Some number → bit_at first.free lane ≡ 1 →
      CoversIn o begun lane first other
  has_read : reads_only begun ≡ true → bit_at first.in_effect lane ≡ 1 → CoversIn o begun lane first other
  never_ends : begun.ends ≡ Never → bit_at other.in_effect lane ≡ 1 → CoversIn o begun lane first other

-- so it does in each lane, and the states are one: what goes on from the other goes on from the first
pub record IsCoveredBy {S : Type 0} (o : Judged S) (table : List (Option OpenCall)) (first other : Position) : Type 0
  where
    pub state : other.state ≡ first.state
    pub each : (lane : ℕ) (begun : OpenCall) → open_at table lane ≡ Some begun → CoversIn o begun lane first other

-- the position of this place is covered by that of another
pub record IsCoveredAt {S : Type 0} (o : Judged S) (table : List (Option OpenCall)) (at : ℕ)
    (positions : List Position) : Type 0 where
  pub place : ℕ
  pub within : place < length positions
  pub apart : place ≢ at
  pub covers : (d : Position) →
      IsCoveredBy o table (slice_index_or positions place d) (slice_index_or positions at d)

-- the lane has an open call of this kind
pub record IsOpenAs (table : List (Option OpenCall)) (Kind : OpenCall → Type 0) (lane : ℕ) : Type 0 where
  pub begun : OpenCall
  pub is_open : open_at table lane ≡ Some begun
  pub kind : Kind begun

-- these lanes have such calls
abbrev pub AreOpenAs : List (Option OpenCall) → (OpenCall → Type 0) → ℕ → Type 0
AreOpenAs table Kind lanes = (lane : ℕ) → bit_at lanes lane ≡ 1 → IsOpenAs table Kind lane

-- each lane with an open call is among the busy ones; the others have calls that overwrite, that change nothing as
-- they return, or that never end
pub record AreKinds {S : Type 0} (o : Judged S) (table : List (Option OpenCall)) (kinds : Kinds) : Type 0 where
  pub busy : HasEachOpen table kinds.busy
  pub overwriting : AreOpenAs table (λ begun. (number : ℕ) × (o.overwrites begun ≡ Some number)) kinds.overwriting
  pub reading : AreOpenAs table (λ begun. reads_only begun ≡ true) kinds.reading
  pub endless : AreOpenAs table (λ begun. begun.ends ≡ Never) kinds.endless

-- some positions were dropped, and what is left is kept of each run of which all were
pub record IsThinned {S : Type 0} (o : Judged S) (table : List (Option OpenCall)) (old new : List Position) : Type 0
  where
    pub kept : (past : List Event) (last : ℕ) → AreKept o past table last old → AreKept o past table last new
    pub only : Includes new old
    pub fewer : length new ≤ length old
    pub some : 0 < length old → 0 < length new
