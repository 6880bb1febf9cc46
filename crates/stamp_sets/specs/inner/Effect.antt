-- How open calls take effect in a position.
use Rattle.std.specs.Prelude.{ℕ, ◌≡◌, ◌≢◌, ◌<◌, ◌⊎◌, true, false, List, Option, Some, None}
use Rattle.std.specs.Int.{bit_at}
use Rattle.stamp_core.specs.declared.reply.Reply.{Reply}
use Rattle.stamp_runs.specs.Position.{Overwrites, OverwritesNever}
use Rattle.stamp_runs.specs.Run.{AreAlike}
use Rattle.stamp_sets.specs.declared.small_call.SmallCall.{SmallCall}
use Rattle.stamp_sets.specs.declared.small_call.SmallReply.{SmallReply}
use Rattle.stamp_sets.specs.declared.ending.Ending.TheVariants.{Never, Returns}
use Rattle.stamp_sets.specs.declared.open_call.OpenCall.{OpenCall}
use Rattle.stamp_sets.specs.declared.position.Position.{Position}
use Rattle.stamp_sets.specs.Judged.{Judged}
use Rattle.stamp_sets.specs.SmallCall.{call_of, reply_of}
use Rattle.stamp_sets.specs.Kept.{IsFreeCall}
use Rattle.stamp_sets.specs.Told.{MayGet, open_at}
use Rattle.stamp_sets.specs.Lanes.{SetsBit}
use Rattle.stamp_sets.specs.Unchanging.{reads_only}

-- in this state the call may take effect so, and leaves a state of this number
pub record TakesEffectTo {S : Type 0} (o : Judged S) (begun : OpenCall) (s : S) (number : ℕ) : Type 0 where
  pub reply : Reply
  pub next : S
  pub may : MayGet begun.ends reply
  pub step : o.step s (call_of begun.asks) reply next
  pub holds : o.holds number next

-- the number tells what the call leaves, in whatever state of the first number it takes effect
pub record Leaves {S : Type 0} (o : Judged S) (number : ℕ) (begun : OpenCall) (then : ℕ) : Type 0 where
  pub some : (s : S) → o.holds number s → TakesEffectTo o begun s then
  pub each : (s next : S) (reply : Reply) → o.holds number s → MayGet begun.ends reply →
      o.step s (call_of begun.asks) reply next → o.holds then next

-- it overwrites, with a reply that it may get, and leaves a state of this number
pub record IsOverwriting {S : Type 0} (o : Judged S) (begun : OpenCall) (number : ℕ) : Type 0 where
  pub reply : Reply
  pub next : S
  pub may : MayGet begun.ends reply
  pub overwrites : Overwrites o.step (call_of begun.asks) reply next
  pub holds : o.holds number next

-- what was found of an open call: the number of the state that it leaves wherever it takes effect; or it does not
-- overwrite
abbrev pub IsOverwritingTo : {S : Type 0} → Judged S → OpenCall → Option ℕ → Type 0
IsOverwritingTo {S} o begun None = (reply : Reply) (t : S) → MayGet begun.ends reply →
    ¬ Overwrites o.step (call_of begun.asks) reply t
IsOverwritingTo o begun (Some number) = IsOverwriting o begun number

-- what was found of a call in a state: the number of the one that it leaves; or it gets no reply that it may get, but
-- one by which it would change nothing and never end, and does not overwrite
abbrev pub IsEffect : {S : Type 0} → Judged S → ℕ → OpenCall → Option ℕ → Type 0
IsEffect {S} o number begun None = (s next : S) (reply : Reply) → o.holds number s → MayGet begun.ends reply →
    o.step s (call_of begun.asks) reply next → (begun.ends ≡ Never) × (next ≡ s) × (o.overwrites begun ≡ None)
IsEffect {S} o number begun (Some then) = Leaves o number begun then

-- the call changes nothing where it has this reply
abbrev pub ChangesNothing : {S : Type 0} → Judged S → SmallCall → SmallReply → Type 0
ChangesNothing {S} o call reply = (s next : S) → o.step s (call_of call) (reply_of reply) next → next ≡ s

-- the reply that is told of the call is one by which it changes nothing, and it overwrites in no case
pub record IsUnchanging {S : Type 0} (o : Judged S) (begun : OpenCall) : Type 0 where
  pub told : SmallReply
  pub place : ℕ
  pub ends : begun.ends ≡ Returns told place
  pub unchanging : ChangesNothing o begun.asks told
  pub never : OverwritesNever o.step (call_of begun.asks)

-- the lane's call takes effect, from the one position to the other
pub record Takes {S : Type 0} (o : Judged S) (table : List (Option OpenCall)) (lane : ℕ) (p q : Position) : Type 0 where
  pub begun : OpenCall
  pub is_open : open_at table lane ≡ Some begun
  pub free : bit_at p.in_effect lane ≡ 0
  pub effect : Leaves o p.state begun q.state
  pub sets : SetsBit p.in_effect q.in_effect lane 1

-- so it does at once, in one of these lanes, since it changes nothing; it is not free then
pub record TakesAtOnce {S : Type 0} (o : Judged S) (table : List (Option OpenCall)) (Lane : ℕ → Type 0)
    (p q : Position) : Type 0 where
  pub lane : ℕ
  pub among : Lane lane
  pub takes : Takes o table lane p q
  pub unchanging : IsUnchanging o takes.begun
  pub same : q.state ≡ p.state
  pub clears : SetsBit p.free q.free lane 0

-- calls of these lanes that change nothing take effect, one after the other
pub data Settles {S : Type 0} (o : Judged S) (table : List (Option OpenCall)) (Lane : ℕ → Type 0) (p : Position) :
    Position → Type 0 where
  as_it_is : Settles o table Lane p p
  one_more : (q r : Position) → Settles o table Lane p q → TakesAtOnce o table Lane q r → Settles o table Lane p r

-- the call of this lane takes effect, if it returns with a reply by which it changes nothing and may get it
pub record SettlesOne {S : Type 0} (o : Judged S) (begun : OpenCall) (lane : ℕ) (p q : Position) : Type 0 where
  pub settles : (table : List (Option OpenCall)) → open_at table lane ≡ Some begun →
      Settles o table (λ l. l ≡ lane) p q
  pub whole : reads_only begun ≡ true → (bit_at q.in_effect lane ≡ 1) ⊎ IsEffect o p.state begun None

-- so do the calls of all of these lanes
pub record AreSettled {S : Type 0} (o : Judged S) (table : List (Option OpenCall)) (lanes : ℕ) (p q : Position) :
    Type 0 where
  pub settles : Settles o table (λ l. bit_at lanes l ≡ 1) p q
  pub whole : (lane : ℕ) (begun : OpenCall) → bit_at lanes lane ≡ 1 → open_at table lane ≡ Some begun →
      reads_only begun ≡ true → (bit_at q.in_effect lane ≡ 1) ⊎ IsEffect o p.state begun None

-- an open call is not in effect, is not awaited, and may be free
pub record IsFreed {S : Type 0} (o : Judged S) (table : List (Option OpenCall)) (awaited in_effect lane : ℕ) : Type 0
  where
    pub is : IsFreeCall o (open_at table lane) (bit_at in_effect lane)
    pub apart : lane ≢ awaited

-- such calls of these lanes are free, and what was
pub record Frees {S : Type 0} (o : Judged S) (table : List (Option OpenCall)) (awaited in_effect : ℕ)
    (Lane : ℕ → Type 0) (old new : ℕ) : Type 0 where
  pub freed : (lane : ℕ) → Lane lane → IsFreed o table awaited in_effect lane → bit_at new lane ≡ 1
  pub stay : (lane : ℕ) → bit_at old lane ≡ 1 → bit_at new lane ≡ 1
  pub only : (lane : ℕ) → bit_at new lane ≡ 1 → IsFreed o table awaited in_effect lane ⊎ (bit_at old lane ≡ 1)

-- all of them are
abbrev pub FreesAll : {S : Type 0} → Judged S → List (Option OpenCall) → ℕ → Position → ℕ → Type 0
FreesAll o table awaited p free = Frees o table awaited p.in_effect (λ l. Unit {0}) p.free free

-- these lanes' calls are free but for the one that took effect: all that may be, if it overwrites
pub record FreesOthers {S : Type 0} (o : Judged S) (table : List (Option OpenCall)) (awaited : ℕ) (p : Position)
    (lane free : ℕ) : Type 0 where
  pub all : ℕ
  pub frees : FreesAll o table awaited p all
  pub clears : SetsBit all free lane 0

abbrev pub AreFree : {S : Type 0} → Judged S → List (Option OpenCall) → ℕ → Position → ℕ → Option ℕ → ℕ → Type 0
AreFree o table awaited p lane None free = SetsBit p.free free lane 0
AreFree o table awaited p lane (Some number) free = FreesOthers o table awaited p lane free

-- the lane's call takes effect, and then what changes nothing
pub record IsAfterEffect {S : Type 0} (o : Judged S) (table : List (Option OpenCall)) (awaited : ℕ) (p : Position)
    (lane : ℕ) (q : Position) : Type 0 where
  pub between : Position
  pub takes : Takes o table lane p between
  pub frees : AreFree o table awaited p lane (o.overwrites takes.begun) between.free
  pub settles : Settles o table (λ l. Unit {0}) between q

-- what was found for the call of a lane
abbrev pub IsFoundAfter : {S : Type 0} → Judged S → List (Option OpenCall) → ℕ → Position → ℕ → OpenCall →
    Option Position → Type 0
IsFoundAfter o table awaited p lane begun None = IsEffect o p.state begun None
IsFoundAfter o table awaited p lane begun (Some q) = IsAfterEffect o table awaited p lane q

-- two calls are alike, which do the same and have one reply, and the first returns sooner
pub record IsAhead {S : Type 0} (o : Judged S) (first other : OpenCall) : Type 0 where
  pub reply : SmallReply
  pub answer : SmallReply
  pub place : ℕ
  pub later : ℕ
  pub first_is : first.ends ≡ Returns reply place
  pub other_is : other.ends ≡ Returns answer later
  pub sooner : place < later
  pub same : reply ≡ answer
  pub alike : AreAlike o.step (call_of first.asks) (call_of other.asks)

-- two calls are one call, and neither ends
pub record AreEndless (first other : OpenCall) : Type 0 where
  pub first_is : first.ends ≡ Never
  pub other_is : other.ends ≡ Never
  pub call : first.asks ≡ other.asks

-- the call of the first lane goes before the other: it is ahead; or neither ends, and its lane is lower
abbrev pub GoesBefore : {S : Type 0} → Judged S → ℕ → ℕ → OpenCall → OpenCall → Type 0
GoesBefore o first_lane lane first other = IsAhead o first other ⊎ (AreEndless first other × (first_lane < lane))

-- a call that goes before this one of the lane is not in effect; it changes something, or is not told to return
pub record GivesWay {S : Type 0} (o : Judged S) (table : List (Option OpenCall)) (in_effect lane : ℕ)
    (begun : OpenCall) : Type 0 where
  pub first_lane : ℕ
  pub first : OpenCall
  pub is_first : open_at table first_lane ≡ Some first
  pub free : bit_at in_effect first_lane ≡ 0
  pub changes : reads_only first ≡ false
  pub goes : GoesBefore o first_lane lane first begun

-- so it is in one of these lanes
pub record GivesWayAmong {S : Type 0} (o : Judged S) (table : List (Option OpenCall)) (lanes in_effect lane : ℕ)
    (begun : OpenCall) : Type 0 where
  pub way : GivesWay o table in_effect lane begun
  pub among : bit_at lanes way.first_lane ≡ 1

-- the lane's call takes no effect of its own in the state of this number: it overwrites; or it changes nothing as it is
-- told to return, and is not awaited; or it ends, and gets no reply there that it may get
abbrev pub IsPassedOver : {S : Type 0} → Judged S → ℕ → ℕ → OpenCall → ℕ → Type 0
IsPassedOver o awaited lane begun number = ((left : ℕ) × (o.overwrites begun ≡ Some left)) ⊎
    (((reads_only begun ≡ true) × (lane ≢ awaited)) ⊎ ((begun.ends ≢ Never) × IsEffect o number begun None))

-- so does each call that is not in effect: a call that overwrites and leaves that state is as good as hidden
pub record IsUnseen {S : Type 0} (o : Judged S) (table : List (Option OpenCall)) (awaited in_effect number : ℕ) :
    Type 0 where
  pub each : (lane : ℕ) (begun : OpenCall) → open_at table lane ≡ Some begun → bit_at in_effect lane ≡ 0 →
      IsPassedOver o awaited lane begun number

-- the lane's call is left out: it gives way, or overwrites and is unseen
abbrev pub IsLeftOut : {S : Type 0} → Judged S → List (Option OpenCall) → ℕ → ℕ → ℕ → OpenCall → Type 0
IsLeftOut o table awaited in_effect lane begun = GivesWay o table in_effect lane begun ⊎
    ((number : ℕ) × (o.overwrites begun ≡ Some number) × IsUnseen o table awaited in_effect number)
