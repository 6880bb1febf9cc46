-- What is taken down of a return.
use Rattle.std.specs.Prelude.{ℕ, ◌≡◌, ◌⊎◌, ◌++◌, true, List, [], ◌∷◌, reverse, replicate, Option, Some, None}
use Rattle.std.specs.List.{Contains}
use Rattle.stamp_runs.specs.declared.event.Event.{Event}
use Rattle.stamp_sets.specs.declared.half.Half.{Half}
use Rattle.stamp_sets.specs.declared.open_call.OpenCall.{OpenCall}
use Rattle.stamp_sets.specs.declared.position.Position.{Position}
use Rattle.stamp_sets.specs.declared.trace.Trace.{Trace}
use Rattle.stamp_sets.specs.declared.trail.Entry.{Entry}
use Rattle.stamp_sets.specs.declared.trail.Entry.TheVariants.{Returns, Comes}
use Rattle.stamp_sets.specs.declared.trail.Link.{Link}
use Rattle.stamp_sets.specs.declared.trail.Trail.{Trail}
use Rattle.stamp_sets.specs.declared.trail.Way.{Way}
use Rattle.stamp_sets.specs.declared.trail.Way.TheVariants.{Takes, Frees}
use Rattle.stamp_sets.specs.Judged.{Judged, judged}
use Rattle.stamp_sets.specs.Tracing.{IsReturnedFrom, IsTracedBy}
use Rattle.stamp_sets.specs.inner.Start.{Includes}
use Rattle.stamp_sets.specs.inner.Step.{IsOpening}

-- what an effect is: one that overwrites frees others
abbrev pub way_of : Option ℕ → Way
way_of None = Takes
way_of (Some number) = Frees

-- a position is traced by a trail and the entries before it, whose newest is the first one
abbrev pub IsTracedIn : {S : Type 0} → Judged S → List Event → List (Option OpenCall) → List Entry → Trail → Position →
    Type 0
IsTracedIn o past table before trail x = IsTracedBy o past table (reverse trail.entries.items ++ before) x

-- it is taken down, if the trail is on
pub record HasNoted (old new : Trail) (entry : Entry) : Type 0 where
  pub on : new.is_on ≡ old.is_on
  pub added : old.is_on ≡ true → new.entries.items ≡ old.entries.items ++ entry ∷ []

-- the position that was come to is added with its link, or is there
abbrev pub AddsBy : Link → List Position → List Position → Trail → Trail → Type 0
AddsBy link xs ys old new = ((ys ≡ xs) × (new ≡ old)) ⊎ ((ys ≡ xs ++ link.to ∷ []) × HasNoted old new (Comes link))

-- while a trail is on, and positions like these are traced: what was traced stays so, and what is added is
pub record AreNoted {S : Type 0} (o : Judged S) (table : List (Option OpenCall)) (From : Position → Type 0)
    (old new : Trail) (xs ys : List Position) : Type 0 where
  pub on : new.is_on ≡ old.is_on
  pub stay : (past : List Event) (before : List Entry) → old.is_on ≡ true →
      ((p : Position) → From p → IsTracedIn o past table before old p) → (x : Position) →
      IsTracedIn o past table before old x → IsTracedIn o past table before new x
  pub each : (past : List Event) (before : List Entry) → old.is_on ≡ true →
      ((p : Position) → From p → IsTracedIn o past table before old p) → (x : Position) → Contains ys x →
      Contains xs x ⊎ IsTracedIn o past table before new x

-- each position returns from one that is traced
pub record ReturnsTraced {S : Type 0} (o : Judged S) (table : List (Option OpenCall)) (lane : ℕ) (old new : Trail)
    (xs ys : List Position) : Type 0 where
  pub on : new.is_on ≡ old.is_on
  pub each : (past : List Event) (before : List Entry) → old.is_on ≡ true →
      ((p : Position) → Contains xs p → IsTracedIn o past table before old p) → (x : Position) → Contains ys x →
      (y : Position) × IsReturnedFrom lane y x × IsTracedIn o past table before new y

-- the trace goes on by these entries and one event, which has this number among all, if it is on
pub record GoesOnTo (old new : Trace) (entries : List Entry) (number : ℕ) : Type 0 where
  pub on : new.is_on ≡ old.is_on
  pub added : old.is_on ≡ true → new.entries ≡ old.entries ++ entries
  pub told : old.is_on ≡ true → new.numbers ≡ old.numbers ++ number ∷ []

-- the positions return from traced ones, and this is taken down
pub record AreReturnedBy {S : Type 0} (o : Judged S) (table : List (Option OpenCall)) (lane number : ℕ)
    (old new : Trace) (xs ys : List Position) : Type 0 where
  pub first : Trail
  pub then : Trail
  pub on : first.is_on ≡ old.is_on
  pub none : first.entries.items ≡ []
  pub returns : ReturnsTraced o table lane first then xs ys
  pub goes_on : GoesOnTo old new (then.entries.items ++ Returns lane ∷ []) number

-- the call of a lane returned in a half, some of whose positions were dropped then
pub record ReturnsOn (lane number : ℕ) (old new : Half) (trace later : Trace) : Type 0 where
  pub positions : List Position
  pub returns : AreReturnedBy (judged old.object) old.table.items lane number trace later old.positions.items positions
  pub only : Includes new.positions.items positions

-- a half of which nothing has begun
pub record IsNew (half : Half) : Type 0 where
  pub idle : half.table.items ≡ replicate 64 None
  pub first : Position
  pub only : half.positions.items ≡ first ∷ []
  pub opening : IsOpening (judged half.object) first
