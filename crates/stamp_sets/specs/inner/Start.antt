-- How a set of positions goes on to a return at first: a free call that returns is not free any more, or was hidden.
use Rattle.std.specs.Prelude.{ℕ, ◌≡◌, ◌<◌, ◌⊎◌, List, Option, Some, None}
use Rattle.std.specs.Int.{bit_at}
use Rattle.std.specs.List.{Contains}
use Rattle.stamp_sets.specs.declared.open_call.OpenCall.{OpenCall}
use Rattle.stamp_sets.specs.declared.position.Position.{Position}
use Rattle.stamp_sets.specs.Judged.{Judged}
use Rattle.stamp_sets.specs.Told.{open_at}
use Rattle.stamp_sets.specs.Lanes.{SetsBit}
use Rattle.stamp_sets.specs.inner.Effect.{AreSettled, GivesWayAmong}

abbrev pub Includes : List Position → List Position → Type 0
Includes xs ys = (x : Position) → Contains xs x → Contains ys x

-- the same, but the lane's call is not free
pub record IsFixed (lane : ℕ) (p q : Position) : Type 0 where
  pub state : q.state ≡ p.state
  pub in_effect : q.in_effect ≡ p.in_effect
  pub clears : SetsBit p.free q.free lane 0

-- the lane's call took effect unseen and left this state, and so did all free calls after it that read that one
pub record IsHidden {S : Type 0} (o : Judged S) (table : List (Option OpenCall)) (lane number : ℕ) (p q : Position) :
    Type 0 where
  pub there : Position
  pub then : Position
  pub at : there.state ≡ number
  pub takes : SetsBit p.in_effect there.in_effect lane 1
  pub clears : SetsBit p.free there.free lane 0
  pub settled : AreSettled o table there.free there then
  pub state : q.state ≡ p.state
  pub in_effect : q.in_effect ≡ then.in_effect
  pub free : q.free ≡ then.free

-- the first lane's free call overwrites, and was hidden; it is the other one's, or that one is answered then
pub record HidesOne {S : Type 0} (o : Judged S) (table : List (Option OpenCall)) (source lane : ℕ) (p q : Position) :
    Type 0 where
  pub begun : OpenCall
  pub number : ℕ
  pub is_open : open_at table source ≡ Some begun
  pub overwrites : o.overwrites begun ≡ Some number
  pub free : bit_at p.free source ≡ 1
  pub hidden : IsHidden o table source number p q
  pub answers : (source ≡ lane) ⊎ (bit_at q.in_effect lane ≡ 1)

-- one of these has the lane's call hidden
pub record HidesAmong {S : Type 0} (o : Judged S) (table : List (Option OpenCall)) (lane number : ℕ) (p : Position)
    (first : List Position) : Type 0 where
  pub position : Position
  pub among : Contains first position
  pub hidden : IsHidden o table lane number p position

-- where the first lane's call is hidden, the other one's is not answered
pub record HidesInVain {S : Type 0} (o : Judged S) (table : List (Option OpenCall)) (source number lane : ℕ)
    (p : Position) : Type 0 where
  pub position : Position
  pub hidden : IsHidden o table source number p position
  pub waits : bit_at position.in_effect lane ≡ 0

-- the first lane's call, if it is free and overwrites, was hidden in one of these; or would be in vain; or gives way to
-- another free one
pub record IsTriedFor {S : Type 0} (o : Judged S) (table : List (Option OpenCall)) (lane : ℕ) (p : Position)
    (source : ℕ) (first : List Position) : Type 0 where
  pub tried : (begun : OpenCall) (number : ℕ) → open_at table source ≡ Some begun →
      o.overwrites begun ≡ Some number → bit_at p.free source ≡ 1 →
      HidesAmong o table source number p first ⊎
      (HidesInVain o table source number lane p ⊎ GivesWayAmong o table p.free p.in_effect source begun)

-- positions are added in which a free call of some lane was hidden, and with it this one's; and the calls of these
-- lanes were tried for it
pub record Hides {S : Type 0} (o : Judged S) (table : List (Option OpenCall)) (lane : ℕ) (p : Position)
    (Source : ℕ → Type 0) (old new : List Position) : Type 0 where
  pub grows : Includes old new
  pub only : (x : Position) → Contains new x → Contains old x ⊎ ((source : ℕ) × HidesOne o table source lane p x)
  pub whole : (source : ℕ) → Source source → IsTriedFor o table lane p source new

-- the free call of a lane was hidden, in each way: it overwrites itself, or it reads what one left that does
abbrev pub IsHiddenFor : {S : Type 0} → Judged S → List (Option OpenCall) → ℕ → Position → List Position → Option ℕ →
    Type 0
IsHiddenFor o table lane p first None = (source : ℕ) → source < 64 → IsTriedFor o table lane p source first
IsHiddenFor o table lane p first (Some number) = HidesAmong o table lane number p first

-- so it is, whichever of both the call does
pub record HidesEach {S : Type 0} (o : Judged S) (table : List (Option OpenCall)) (lane : ℕ) (p : Position)
    (old new : List Position) : Type 0 where
  pub grows : Includes old new
  pub only : (x : Position) → Contains new x → Contains old x ⊎ ((source : ℕ) × HidesOne o table source lane p x)
  pub whole : (begun : OpenCall) → open_at table lane ≡ Some begun →
      IsHiddenFor o table lane p new (o.overwrites begun)

-- what comes of a position as the lane's call is about to return: it is not free; or, if it was, it was hidden
pub record IsTakenUp {S : Type 0} (o : Judged S) (table : List (Option OpenCall)) (lane : ℕ) (p : Position)
    (first : List Position) : Type 0 where
  pub fixed : Position
  pub among : Contains first fixed
  pub is : IsFixed lane p fixed
  pub hidden : (begun : OpenCall) → open_at table lane ≡ Some begun → bit_at p.free lane ≡ 1 →
      IsHiddenFor o table lane p first (o.overwrites begun)

-- it comes of the position so
abbrev pub IsTakenFrom : {S : Type 0} → Judged S → List (Option OpenCall) → ℕ → Position → Position → Type 0
IsTakenFrom o table lane p q = IsFixed lane p q ⊎ ((source : ℕ) × HidesOne o table source lane p q)

pub record TakesUp {S : Type 0} (o : Judged S) (table : List (Option OpenCall)) (lane : ℕ) (p : Position)
    (old new : List Position) : Type 0 where
  pub grows : Includes old new
  pub only : (x : Position) → Contains new x → Contains old x ⊎ IsTakenFrom o table lane p x
  pub whole : IsTakenUp o table lane p new

-- it comes of one of these
pub record TakenFromOne {S : Type 0} (o : Judged S) (table : List (Option OpenCall)) (lane : ℕ) (old : List Position)
    (x : Position) : Type 0 where
  pub from : Position
  pub among : Contains old from
  pub taken : IsTakenFrom o table lane from x

-- the first layer has what comes of each of these, and nothing else
pub record StartsWith {S : Type 0} (o : Judged S) (table : List (Option OpenCall)) (lane : ℕ)
    (old first : List Position) : Type 0 where
  pub each : (x : Position) → Contains old x → IsTakenUp o table lane x first
  pub only : (x : Position) → Contains first x → TakenFromOne o table lane old x
