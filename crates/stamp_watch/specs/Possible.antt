-- Which replies were possible at a return of a run, and what a judge keeps of the run for that.
use Rattle.std.specs.Prelude.{ℕ, ◌≡◌, ◌≢◌, ◌-◌, ◌+◌, ◌^◌, ◌<◌, ◌≤◌, ◌↔◌, ◌++◌, List, [], ◌∷◌, length, take, map}
use Rattle.std.specs.Prelude.{slice_get}
use Rattle.std.specs.Prelude.{Option, Some, None, MatchOption, Vec}
use Rattle.std.specs.declared.alloc.Global.{Global}
use Rattle.std.proofs.Common.{zero, suc}
use Rattle.std.specs.List.{AllPairs, Contains}
use Rattle.stamp_core.specs.Limits.{Bounds}
use Rattle.stamp_core.specs.declared.call.Call.{Call}
use Rattle.stamp_core.specs.declared.call.Call.TheVariants.{Validate, UnlockWrite, UnlockRead, Unlock, TryUnlockWrite}
use Rattle.stamp_core.specs.declared.call.Call.TheVariants.{TryUnlockRead, IsWriteLocked, IsReadLocked, ReadCount}
use Rattle.stamp_core.specs.declared.call.Call.TheVariants.{Put, PutIf}
use Rattle.stamp_core.specs.declared.lock_decision.LockReply.TheVariants.{Yes, No, Done, Mismatch, Count}
use Rattle.stamp_core.specs.declared.reply.Reply.{Reply}
use Rattle.stamp_runs.specs.declared.event.Event.{Event}
use Rattle.stamp_runs.specs.declared.event.Event.TheVariants.{Returns}
use Rattle.stamp_runs.specs.BothRun.{AreExplained}
use Rattle.stamp_sets.specs.SmallCall.{reply_of}
use Rattle.stamp_sets.specs.declared.small_call.SmallReply.{SmallReply}
use Rattle.stamp_sets.specs.declared.small_call.SmallReply.TheVariants.{OfLock}
use Rattle.stamp_watch.specs.declared.course.Course.{Course}
use Rattle.stamp_watch.specs.declared.online.Judge.{Judge}
use Rattle.stamp_watch.specs.Course.{IsStanding}
use Rattle.stamp_watch.specs.Judge.{IsJudge}
use Rattle.stamp_watch.specs.Verdict.{AreOfLanes, AreTooMany}

-- the event of this number is a return, and with this reply in place of its own the run is explained up to it
pub record IsPossibleReply (limits : Bounds) (run : List Event) (k : ℕ) (reply : Reply) : Type 0 where
  pub lane : ℕ
  pub own : Reply
  pub there : slice_get run k ≡ Some (Returns lane own)
  pub explained : AreExplained limits (take k run ++ Returns lane reply ∷ [])

-- of the replies that were tried these are the possible ones, all different if those are
pub record ArePossibleAmong (limits : Bounds) (run : List Event) (k : ℕ) (tried : List SmallReply)
    (found : List Reply) : Type 0 where
  pub each : (reply : Reply) →
      Contains found reply ↔ (Contains (map reply_of tried) reply × IsPossibleReply limits run k reply)
  pub once : AllPairs (λ (a b : Reply). a ≢ b) (map reply_of tried) → AllPairs (λ (a b : Reply). a ≢ b) found

-- with this reply there are too many positions before some event
pub record AreTooManyFor (limits : Bounds) (run : List Event) (k most : ℕ) (reply : SmallReply) : Type 0 where
  pub lane : ℕ
  pub own : Reply
  pub there : slice_get run k ≡ Some (Returns lane own)
  pub place : ℕ
  pub past : List Event
  pub future : List Event
  pub parts : past ++ future ≡ take k run ++ Returns lane (reply_of reply) ∷ []
  pub too_many : AreTooMany limits place past future most

-- so it is with one of those that were tried
abbrev pub AreTooManyWith : Bounds → List Event → ℕ → ℕ → List SmallReply → Type 0
AreTooManyWith limits run k most tried =
    (reply : SmallReply) × Contains tried reply × AreTooManyFor limits run k most reply

-- the events behind the first ones of a run are kept, up to some place, with a watch that stands behind the first ones
pub record IsKept (limits : Bounds) (run : List Event) (course : Course) : Type 0 where
  pub past : List Event
  pub more : List Event
  pub run_is : run ≡ past ++ (course.events.items ++ more)
  pub place : course.first ≡ length past
  pub whole : AreOfLanes (past ++ course.events.items)
  pub within : course.seen ≤ length course.events.items
  pub from_base : IsStanding limits course.first past (take course.seen course.events.items) course.base
  pub room : course.first + length course.events.items < 2 ^ 64

-- so a judge does, also once something is found
abbrev pub KeepsBase : Bounds → List Event → Judge → Type 0
KeepsBase limits run judge = IsKept limits run judge.course

-- it keeps that of a run with one event more
abbrev pub KeepsOn : Event → Judge → Judge → Type 0
KeepsOn e old new = (limits : Bounds) (most ahead : ℕ) (run : List Event) → IsJudge limits most ahead run old →
    KeepsBase limits run old → KeepsBase limits (run ++ e ∷ []) new

-- it is the judge of a run, and keeps that
pub record IsKeeping (judge : Judge) : Type 0 where
  pub limits : Bounds
  pub most : ℕ
  pub ahead : ℕ
  pub run : List Event
  pub judge_of : IsJudge limits most ahead run judge
  pub keeps : KeepsBase limits run judge

-- of some run
pub record KeepsSome (judge : Judge) : Type 0 where
  pub limits : Bounds
  pub run : List Event
  pub keeps : KeepsBase limits run judge

-- the event of this number is kept, it is a return, and the open calls of the base end before it
pub record CanTell (judge : Judge) (k : ℕ) : Type 0 where
  pub seen : judge.course.first + judge.course.seen ≤ k
  pub lane : ℕ
  pub own : Reply
  pub there : slice_get judge.course.events.items (k - judge.course.first) ≡ Some (Returns lane own)

abbrev pub items_in : Option (Vec Reply Global) → Option (List Reply)
items_in None = None
items_in (Some replies) = Some replies.items

-- which of the replies that were tried are possible at the event; or it can't be told
abbrev pub IsTold : Judge → ℕ → List SmallReply → Option (List Reply) → Type 0
IsTold judge k tried (Some found) = (limits : Bounds) (run : List Event) → KeepsBase limits run judge →
    ArePossibleAmong limits run k tried found
IsTold judge k tried None = CanTell judge k → (limits : Bounds) (run : List Event) → KeepsBase limits run judge →
    AreTooManyWith limits run k judge.most tried

-- the counts below this number
abbrev pub counts_below : ℕ → List SmallReply
counts_below zero = []
counts_below (suc n) = counts_below n ++ OfLock (Count n) ∷ []

abbrev pub yes_or_no : List SmallReply
yes_or_no = OfLock Yes ∷ OfLock No ∷ []

abbrev pub done_or_not : List SmallReply
done_or_not = OfLock Done ∷ OfLock Mismatch ∷ []

-- all that may be answered to the call, where that is neither a stamp nor a content
abbrev pub plain_replies : Bounds → Call → Option (List SmallReply)
plain_replies limits (Validate s) = Some yes_or_no
plain_replies limits TryUnlockWrite = Some yes_or_no
plain_replies limits TryUnlockRead = Some yes_or_no
plain_replies limits IsWriteLocked = Some yes_or_no
plain_replies limits IsReadLocked = Some yes_or_no
plain_replies limits (UnlockWrite s) = Some done_or_not
plain_replies limits (UnlockRead s) = Some done_or_not
plain_replies limits (Unlock s) = Some done_or_not
plain_replies limits ReadCount = Some (counts_below (limits.readers + 1))
plain_replies limits (Put words) = Some (OfLock Done ∷ [])
plain_replies limits (PutIf expected words) = Some yes_or_no
plain_replies limits _ = None

-- which of those are possible at the event; or it can't be told, or there are none
abbrev pub IsToldOf : Judge → ℕ → Call → Option (List Reply) → Type 0
IsToldOf judge k call told = MatchOption (plain_replies judge.course.base.limits call) (told ≡ None)
    (λ tried. IsTold judge k tried told)
