-- How a set of positions goes on to a return, layer by layer: each has one call more in effect than one before it.
use Rattle.std.specs.Prelude.{ℕ, ◌≡◌, ◌≢◌, ◌<◌, ◌≤◌, ◌⊎◌, ◌++◌, Bool, true, false, List, [], length, take}
use Rattle.std.specs.Prelude.{Option, Some, None, slice_index_or}
use Rattle.std.specs.Int.{bit_at}
use Rattle.std.specs.List.{All, AllPairs, Contains}
use Rattle.stamp_sets.specs.declared.open_call.OpenCall.{OpenCall}
use Rattle.stamp_sets.specs.declared.position.Position.{Position}
use Rattle.stamp_sets.specs.Judged.{Judged}
use Rattle.stamp_sets.specs.Told.{open_at}
use Rattle.stamp_sets.specs.Tracing.{IsReturnedFrom}
use Rattle.stamp_sets.specs.inner.Lanes.{lanes_in}
use Rattle.stamp_sets.specs.inner.Effect.{IsAfterEffect, IsEffect, IsLeftOut}
use Rattle.stamp_sets.specs.inner.Start.{Includes, StartsWith}

abbrev pub AreDifferent : List Position → Type 0
AreDifferent xs = AllPairs (λ (p q : Position). p ≢ q) xs

-- the position is added, if it was not there
pub record Adds (old new : List Position) (p : Position) : Type 0 where
  pub has : Contains new p
  pub grows : Includes old new
  pub only : (x : Position) → Contains new x → Contains old x ⊎ (x ≡ p)
  pub different : AreDifferent old → AreDifferent new

-- what comes of the lane's call in this position is one of these
pub record ComesAmong {S : Type 0} (o : Judged S) (table : List (Option OpenCall)) (awaited : ℕ) (p : Position)
    (lane : ℕ) (next : List Position) : Type 0 where
  pub position : Position
  pub among : Contains next position
  pub after : IsAfterEffect o table awaited p lane position

-- the lane's call, if it is open and not in effect, has taken effect in one of these; or no effect was found; or it is
-- not awaited and left out
pub record IsTried {S : Type 0} (o : Judged S) (table : List (Option OpenCall)) (awaited : ℕ) (p : Position)
    (lane : ℕ) (next : List Position) : Type 0 where
  pub tried : (begun : OpenCall) → open_at table lane ≡ Some begun → bit_at p.in_effect lane ≡ 0 →
      ComesAmong o table awaited p lane next ⊎
      (IsEffect o p.state begun None ⊎ ((lane ≢ awaited) × IsLeftOut o table awaited p.in_effect lane begun))

-- it comes of the position by the call of some lane
pub record FollowsIt {S : Type 0} (o : Judged S) (table : List (Option OpenCall)) (awaited : ℕ) (p q : Position) : Type
    0 where
  pub lane : ℕ
  pub within : lane < 64
  pub after : IsAfterEffect o table awaited p lane q

-- what follows a position is added: by the call of each of these lanes, and by no other
pub record Expands {S : Type 0} (o : Judged S) (table : List (Option OpenCall)) (awaited : ℕ) (p : Position)
    (Lane : ℕ → Type 0) (old new : List Position) : Type 0 where
  pub grows : Includes old new
  pub only : (x : Position) → Contains new x → Contains old x ⊎ FollowsIt o table awaited p x
  pub different : AreDifferent old → AreDifferent new
  pub whole : (lane : ℕ) → Lane lane → IsTried o table awaited p lane new

-- it follows one of these
pub record FollowsOne {S : Type 0} (o : Judged S) (table : List (Option OpenCall)) (awaited : ℕ)
    (layer : List Position) (x : Position) : Type 0 where
  pub from : Position
  pub among : Contains layer from
  pub follows : FollowsIt o table awaited from x

-- so it is in one of these
pub record ReturnsFromOne (lane : ℕ) (layer : List Position) (x : Position) : Type 0 where
  pub from : Position
  pub among : Contains layer from
  pub returned : IsReturnedFrom lane from x

-- so it is in each of these
pub record AreReturned (lane : ℕ) (old new : List Position) : Type 0 where
  pub many : length new ≡ length old
  pub each : (k : ℕ) (d : Position) → k < length old →
      IsReturnedFrom lane (slice_index_or old k d) (slice_index_or new k d)

-- what is one of these comes of the position as its call returns
pub record ReturnsTo (lane : ℕ) (p : Position) (done : List Position) : Type 0 where
  pub position : Position
  pub among : Contains done position
  pub returned : IsReturnedFrom lane p position

-- the call of this lane is not in effect, and the call of each lane was tried
pub record IsExpanded {S : Type 0} (o : Judged S) (table : List (Option OpenCall)) (lane : ℕ) (p : Position)
    (next : List Position) : Type 0 where
  pub free : bit_at p.in_effect lane ≡ 0
  pub whole : (u : ℕ) → u < 64 → IsTried o table lane p u next

-- a position was looked at
abbrev pub IsLookedAt : {S : Type 0} → Judged S → List (Option OpenCall) → ℕ → Position → List Position →
    List Position → Type 0
IsLookedAt o table lane p done next = ReturnsTo lane p done ⊎ IsExpanded o table lane p next

-- these positions were looked at: from those in which the call of this lane is in effect it returns, and what follows
-- the others is the next layer
pub record LooksAt {S : Type 0} (o : Judged S) (table : List (Option OpenCall)) (lane : ℕ) (layer : List Position)
    (done then_done next then_next : List Position) : Type 0 where
  pub done_grows : Includes done then_done
  pub next_grows : Includes next then_next
  pub done_only : (x : Position) → Contains then_done x → Contains done x ⊎ ReturnsFromOne lane layer x
  pub next_only : (x : Position) → Contains then_next x → Contains next x ⊎ FollowsOne o table lane layer x
  pub different : AreDifferent next → AreDifferent then_next
  pub each : (x : Position) → Contains layer x → IsLookedAt o table lane x then_done then_next

-- so the whole layer was looked at; or a part of it, and the next one has more than so many
pub record LooksThrough {S : Type 0} (o : Judged S) (table : List (Option OpenCall)) (lane : ℕ)
    (layer : List Position) (done then_done next then_next : List Position) (most : ℕ) (all : Bool) : Type 0 where
  pub seen : ℕ
  pub looks : LooksAt o table lane (take seen layer) done then_done next then_next
  pub whole : all ≡ true → take seen layer ≡ layer
  pub many : all ≡ false → most < length then_next

-- it is come to from one of these by effects
pub data IsComeTo {S : Type 0} (o : Judged S) (table : List (Option OpenCall)) (awaited : ℕ) (start : List Position) :
    Position → Type 0 where
  from_start : (p : Position) → Contains start p → IsComeTo o table awaited start p
  by_effect : (p q : Position) → IsComeTo o table awaited start p → FollowsIt o table awaited p q →
      IsComeTo o table awaited start q

-- these positions were looked at on the way from the first to those that are done, and this layer is next
pub record IsUnderWay {S : Type 0} (o : Judged S) (table : List (Option OpenCall)) (lane : ℕ)
    (start done layer : List Position) (depth : ℕ) : Type 0 where
  pub seen : List Position
  pub starts : Includes start (seen ++ layer)
  pub come : (x : Position) → Contains (seen ++ layer) x → IsComeTo o table lane start x
  pub each : (x : Position) → Contains seen x → IsLookedAt o table lane x done (seen ++ layer)
  pub done_only : (x : Position) → Contains done x → ReturnsFromOne lane seen x
  pub more : All (λ (p : Position). depth ≤ lanes_in p.in_effect) layer

-- more different positions than so many follow these
pub record MoreFollow {S : Type 0} (o : Judged S) (table : List (Option OpenCall)) (awaited : ℕ) (start : List Position)
    (most : ℕ) : Type 0 where
  pub many : List Position
  pub more : most < length many
  pub different : AreDifferent many
  pub come : (x : Position) → Contains many x → IsComeTo o table awaited start x

-- it has returned, by layers from the first one
pub record ReturnsThrough {S : Type 0} (o : Judged S) (table : List (Option OpenCall)) (lane : ℕ)
    (old new : List Position) : Type 0 where
  pub first : List Position
  pub starts : StartsWith o table lane old first
  pub under : IsUnderWay o table lane first new [] 0

-- too many positions follow the first layer
pub record TooManyFollow {S : Type 0} (o : Judged S) (table : List (Option OpenCall)) (lane most : ℕ)
    (old : List Position) : Type 0 where
  pub first : List Position
  pub starts : StartsWith o table lane old first
  pub more : MoreFollow o table lane first most

-- the call of this lane has returned, from the one list to the other: it was in effect in each, or did so by layers; or
-- too many positions follow
abbrev pub IsAfterReturn : {S : Type 0} → Judged S → List (Option OpenCall) → ℕ → ℕ → List Position → List Position →
    Bool → Type 0
IsAfterReturn o table lane most old new true = AreReturned lane old new ⊎ ReturnsThrough o table lane old new
IsAfterReturn o table lane most old new false = TooManyFollow o table lane most old
