-- A return, by positions: the open calls take effect, one after the other, until the one that returns has.
use Rattle.std.specs.Prelude.{ℕ, ◌≡◌, ◌≢◌, ◌⊎◌, Bool, true, false, List, None}
use Rattle.stamp_core.specs.declared.call.Call.{Call}
use Rattle.stamp_core.specs.declared.reply.Reply.{Reply}
use Rattle.stamp_runs.specs.declared.event.Event.{Event}
use Rattle.stamp_runs.specs.declared.event.Event.TheVariants.{Returns}
use Rattle.stamp_runs.specs.Object.{Object}
use Rattle.stamp_runs.specs.Run.{AreAlike, EndsBy, EndsNever, GoesFirst, Phase, Sets}
use Rattle.stamp_runs.specs.Run.Phase.{Asks, Gets, Idle}
use Rattle.stamp_runs.specs.Watching.{Fits, FitsAfter, MayGet, Told}
use Rattle.stamp_runs.specs.Position.{AfterHidden, AreShown, AskAgain, Covers, FreesNoLess, Hidden, Overwrites}
use Rattle.stamp_runs.specs.Position.{OverwritesNever, Position, SameFree}

-- a return: what is told of the lanes before it, what fits then and after it, its lane, and its reply
pub record Return : Type 1 where
  pub told : ℕ → Told
  pub fits : List Event → Type 0
  pub then_fits : List Event → Type 0
  pub lane : ℕ
  pub reply : Reply

abbrev pub event_of : Return → Event
event_of e = Returns e.lane e.reply

-- it comes, and then what fits
abbrev pub Comes : Return → List Event → Type 0
Comes e = FitsAfter (event_of e) e.then_fits

-- one of which that alone is told
abbrev pub told_return : (ℕ → Told) → (ℕ → Told) → ℕ → Reply → Return
told_return told then_told lane reply = record {
  told = told;
  fits = Fits told;
  then_fits = Fits then_told;
  lane = lane;
  reply = reply;
}

-- an effect: the lane's call gets this reply, and leaves this state
pub record Effect (S : Type 0) : Type 0 where
  pub lane : ℕ
  pub call : Call
  pub reply : Reply
  pub next : S

-- the same of another lane's call
abbrev pub of_other : {S : Type 0} → ℕ → Call → Effect S → Effect S
of_other lane call x = record { lane = lane; call = call; reply = x.reply; next = x.next }

-- one of these positions is so
pub record OneOf {S : Type 0} (among so : Position S → Type 0) : Type 0 where
  pub position : Position S
  pub there : among position
  pub is : so position

-- a position to which old ones lead: what is hidden in one of them comes first; calls take effect, of which one that
-- overwrites may make any others free
pub data IsReached {S : Type 0} (O : Object S) (old : Position S → Type 0) : Position S → Type 0 where
  from_old : (p q : Position S) → old p → p.state ≡ q.state → Hidden O p.free None p.lanes q.lanes →
      ((lane : ℕ) → q.free lane ≡ true → p.free lane ≡ true) → IsReached O old q
  by_changing : (p q : Position S) (lane : ℕ) (call : Call) (reply : Reply) → IsReached O old p →
      p.lanes lane ≡ Asks call → O p.state call reply q.state → Sets p.lanes q.lanes lane (Gets reply) →
      q.free lane ≡ false → ((v : ℕ) → q.free v ≡ true → p.free v ≡ true) → IsReached O old q
  by_overwriting : (p q : Position S) (lane : ℕ) (call : Call) (reply : Reply) → IsReached O old p →
      p.lanes lane ≡ Asks call → Overwrites O call reply q.state → Sets p.lanes q.lanes lane (Gets reply) →
      q.free lane ≡ false → IsReached O old q

-- a call that reads returns with its reply, whatever comes that fits
pub record IsToldReader {S : Type 0} (O : Object S) (fits : List Event → Type 0) (v : ℕ) (told : Reply)
    (phase : Phase) : Type 0 where
  pub call : Call
  pub asks : phase ≡ Asks call
  pub still : (u w : S) → O u call told w → w ≡ u
  pub ends : (future : List Event) → fits future → EndsBy v (Returns v told) future

-- calls that read what is there are in effect at once
pub record IsSettled {S : Type 0} (O : Object S) (fits : List Event → Type 0) (p q : Position S) : Type 0 where
  pub readers : ℕ → Bool
  pub told : ℕ → Reply
  pub state : p.state ≡ q.state
  pub shown : AreShown readers told p.lanes q.lanes
  pub free : (v : ℕ) → readers v ≡ false → p.free v ≡ true → q.free v ≡ true
  pub each : (v : ℕ) → readers v ≡ true → IsToldReader O fits v (told v) (p.lanes v)
  pub apart : (v : ℕ) → readers v ≡ true → (call : Call) → p.lanes v ≡ Asks call → OverwritesNever O call

-- calls that never end and are in effect ask again
pub record IsUndone {S : Type 0} (fits : List Event → Type 0) (p q : Position S) : Type 0 where
  pub endless : ℕ → Bool
  pub state : p.state ≡ q.state
  pub asking : AskAgain endless p.lanes q.lanes
  pub free : (v : ℕ) → endless v ≡ false → p.free v ≡ true → q.free v ≡ true
  pub never : (v : ℕ) → endless v ≡ true → (future : List Event) → fits future → EndsNever v future

-- the one position is kept as the other: calls of it that read are in effect at once, calls that never end ask again,
-- and what comes of that is covered
pub record IsKeptAs {S : Type 0} (O : Object S) (fits : List Event → Type 0) (p q : Position S) : Type 0 where
  pub between : Position S
  pub then : Position S
  pub settled : IsSettled O fits p between
  pub undone : IsUndone fits between then
  pub covers : Covers O then q

-- the same, but the lane's call is not free
pub record IsFixed {S : Type 0} (lane : ℕ) (p q : Position S) : Type 0 where
  pub state : p.state ≡ q.state
  pub lanes : p.lanes ≡ q.lanes
  pub free : SameFree p.free q.free lane

-- the call of an effect is hidden with its readers
pub record IsHiddenWith {S : Type 0} (O : Object S) (e : Return) (x : Effect S) (p q : Position S) : Type 0 where
  pub readers : ℕ → Bool
  pub told : ℕ → Reply
  pub after : AfterHidden O e.told p q x.lane x.reply x.next readers told
  pub apart : readers x.lane ≡ false
  pub each : (v : ℕ) → readers v ≡ true → IsToldReader O (Comes e) v (told v) (p.lanes v)

-- a call that is alike goes first
pub record GoesInstead {S : Type 0} (O : Object S) (e : Return) (p : Position S) (x : Effect S) (ahead : ℕ)
    (other : Call) : Type 0 where
  pub apart : ahead ≢ x.lane
  pub asks : p.lanes ahead ≡ Asks other
  pub alike : AreAlike O other x.call
  pub first : (future : List Event) → Comes e future → GoesFirst ahead x.lane x.reply future

-- what the call that returns got in the position, if it is hidden there: a free call overwrites; it is that call, or
-- left what that call reads
pub record IsSource {S : Type 0} (O : Object S) (e : Return) (p : Position S) (x : Effect S) : Type 0 where
  pub free : p.free x.lane ≡ true
  pub asks : p.lanes x.lane ≡ Asks x.call
  pub overwrites : Overwrites O x.call x.reply x.next
  pub call : Call
  pub reads : p.lanes e.lane ≡ Asks call
  pub from : (x.lane ≡ e.lane) ⊎ (O x.next call e.reply x.next × OverwritesNever O call)

-- another call is hidden in place of the source
pub record GivesPlace {S : Type 0} (O : Object S) (e : Return) (looked : Position S → Type 0) (p : Position S)
    (x : Effect S) : Type 0 where
  pub ahead : ℕ
  pub other : Call
  pub instead : GoesInstead O e p x ahead other
  pub free : p.free ahead ≡ true
  pub hidden : OneOf looked (IsHiddenWith O e (of_other ahead other x) p)

-- it asks a call, of which it is known whether it overwrites
pub record AsksSomeCall {S : Type 0} (O : Object S) (phase : Phase) : Type 0 where
  pub call : Call
  pub asks : phase ≡ Asks call
  pub kind : ((reply : Reply) × (t : S) × Overwrites O call reply t) ⊎ OverwritesNever O call

-- the old ones are looked at: with the call that returns not free; and, where it was free, with it hidden, or its
-- source
pub record AreTaken {S : Type 0} (O : Object S) (e : Return) (old looked : Position S → Type 0) : Type 0 where
  pub each : (p : Position S) → old p → OneOf looked (IsFixed e.lane p)
  pub asks : (p : Position S) → old p → p.free e.lane ≡ true → AsksSomeCall O (p.lanes e.lane)
  pub hidden : (p : Position S) (x : Effect S) → old p → p.free e.lane ≡ true → IsSource O e p x →
      OneOf looked (IsHiddenWith O e x p) ⊎ GivesPlace O e looked p x

-- the effect may come in the position, by what is told
pub record MayTakeEffect {S : Type 0} (O : Object S) (e : Return) (p : Position S) (x : Effect S) : Type 0 where
  pub asks : p.lanes x.lane ≡ Asks x.call
  pub step : O p.state x.call x.reply x.next
  pub may : MayGet (e.told x.lane) x.reply

-- it has come; where the call overwrites, these calls are free then
pub record IsInEffect {S : Type 0} (O : Object S) (frees : ℕ → Bool) (x : Effect S) (p q : Position S) : Type 0 where
  pub state : q.state ≡ x.next
  pub sets : Sets p.lanes q.lanes x.lane (Gets x.reply)
  pub free : FreesNoLess p.free q.free x.lane
  pub frees_all : Overwrites O x.call x.reply x.next → (v : ℕ) → v ≢ x.lane → frees v ≡ true → q.free v ≡ true

-- it comes, and what comes of that is kept
pub record TakesEffect {S : Type 0} (O : Object S) (e : Return) (frees : ℕ → Bool) (x : Effect S) (p q : Position S) :
    Type 0 where
  pub then : Position S
  pub effect : IsInEffect O frees x p then
  pub kept : IsKeptAs O (Comes e) then q

-- nothing but reading what it leaves and overwriting it may follow a call that overwrites: it is as good as hidden
pub record IsUnseen {S : Type 0} (O : Object S) (e : Return) (frees : ℕ → Bool) (p : Position S)
    (x : Effect S) : Type 0 where
  pub overwrites : Overwrites O x.call x.reply x.next
  pub is_free : frees x.lane ≡ true
  pub only : (v : ℕ) (c : Call) (r : Reply) (t : S) → p.lanes v ≡ Asks c → O x.next c r t → MayGet (e.told v) r →
      Overwrites O c r t ⊎ ((frees v ≡ true) × (t ≡ x.next))

-- another call takes effect in its place: it is not free, or both overwrite
pub record GivesWay {S : Type 0} (O : Object S) (e : Return) (frees : ℕ → Bool) (looked : Position S → Type 0)
    (p : Position S) (x : Effect S) : Type 0 where
  pub ahead : ℕ
  pub other : Call
  pub instead : GoesInstead O e p x ahead other
  pub unfree : (frees ahead ≡ false) ⊎ (Overwrites O x.call x.reply x.next × (frees x.lane ≡ true))
  pub effect : OneOf looked (TakesEffect O e frees (of_other ahead other x) p)

-- what becomes of an effect: it is looked at, or is unseen, or gives way
pub data IsSeenTo {S : Type 0} (O : Object S) (e : Return) (frees : ℕ → Bool) (looked : Position S → Type 0)
    (p : Position S) (x : Effect S) : Type 0 where
  is_looked_at : OneOf looked (TakesEffect O e frees x p) → IsSeenTo O e frees looked p x
  is_unseen : IsUnseen O e frees p x → IsSeenTo O e frees looked p x
  gives_way : GivesWay O e frees looked p x → IsSeenTo O e frees looked p x

-- where a position is looked at in which the call that returns is not in effect, all effects are seen to that may
-- come; these calls are free after one that overwrites
pub record AreFollowed {S : Type 0} (O : Object S) (e : Return) (looked : Position S → Type 0) : Type 0 where
  pub frees : Position S → ℕ → Bool
  pub apart : (p : Position S) → looked p → frees p e.lane ≡ false
  pub free : (p : Position S) → looked p → (v : ℕ) → p.free v ≡ true → frees p v ≡ true
  pub effects : (p : Position S) (x : Effect S) (asked : Call) → looked p → p.lanes e.lane ≡ Asks asked →
      MayTakeEffect O e p x → IsSeenTo O e (frees p) looked p x

-- the call that returns asks, or has its reply
abbrev pub IsOpen : Reply → Phase → Type 0
IsOpen reply phase = ((call : Call) × (phase ≡ Asks call)) ⊎ (phase ≡ Gets reply)

-- it is in effect, and returns
pub record IsReturn {S : Type 0} (e : Return) (p q : Position S) : Type 0 where
  pub gets : p.lanes e.lane ≡ Gets e.reply
  pub not_free : p.free e.lane ≡ false
  pub state : p.state ≡ q.state
  pub sets : Sets p.lanes q.lanes e.lane Idle
  pub free : SameFree p.free q.free e.lane

-- and what comes of that is kept
pub record ReturnsAs {S : Type 0} (O : Object S) (e : Return) (p q : Position S) : Type 0 where
  pub then : Position S
  pub return : IsReturn e p then
  pub kept : IsKeptAs O e.then_fits then q

-- the new positions are what is left where the call returns
pub record AreLeft {S : Type 0} (O : Object S) (e : Return) (looked new : Position S → Type 0) : Type 0 where
  pub is_open : (p : Position S) → looked p → IsOpen e.reply (p.lanes e.lane)
  pub come : (q : Position S) → new q → OneOf looked (λ (p : Position S). IsReturn e p q)
  pub stay : (p : Position S) → looked p → p.lanes e.lane ≡ Gets e.reply → OneOf new (ReturnsAs O e p)

-- a return makes these positions of those, by way of the ones that are looked at
pub record ReturnsBy {S : Type 0} (O : Object S) (e : Return) (old looked new : Position S → Type 0) : Type 0 where
  pub reached : (p : Position S) → looked p → IsReached O old p
  pub taken : AreTaken O e old looked
  pub followed : AreFollowed O e looked
  pub left : AreLeft O e looked new
