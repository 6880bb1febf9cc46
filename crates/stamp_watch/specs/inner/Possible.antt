-- How a judge tries other replies.
use Rattle.std.specs.Prelude.{ℕ, ◌≡◌, ◌+◌, ◌≤◌, ◌++◌, true, List, [], ◌∷◌, take, slice_get}
use Rattle.std.specs.Prelude.{◌↔◌, Bool, IsTrue, Option, Some, None, Vec}
use Rattle.std.specs.declared.alloc.Global.{Global}
use Rattle.stamp_core.specs.Limits.{Bounds}
use Rattle.stamp_core.specs.declared.reply.Reply.{Reply}
use Rattle.stamp_runs.specs.declared.event.Event.{Event}
use Rattle.stamp_runs.specs.declared.event.Event.TheVariants.{Returns}
use Rattle.stamp_runs.specs.OneWord.{is_small_reply}
use Rattle.stamp_sets.specs.SmallCall.{reply_of}
use Rattle.stamp_sets.specs.declared.small_call.SmallReply.{SmallReply}
use Rattle.stamp_watch.specs.declared.course.Course.{Course}
use Rattle.stamp_watch.specs.declared.judge.Outcome.{Outcome}
use Rattle.stamp_watch.specs.declared.online.Judge.{Judge}
use Rattle.stamp_watch.specs.declared.possible.KeptReturn.{KeptReturn}
use Rattle.stamp_watch.specs.Possible.{AreTooManyFor, CanTell, IsKept, IsPossibleReply, KeepsBase}
use Rattle.stamp_watch.specs.inner.Judging.{IsOutcome}

pub record KeepsSomeCourse (course : Course) : Type 0 where
  pub limits : Bounds
  pub run : List Event
  pub keeps : IsKept limits run course

-- the event of this place is a return, and the other one is of the same lane
pub record IsReturnFor (events : List Event) (at : ℕ) (e : Event) : Type 0 where
  pub lane : ℕ
  pub own : Reply
  pub reply : Reply
  pub there : slice_get events at ≡ Some (Returns lane own)
  pub is : e ≡ Returns lane reply
  pub small : is_small_reply reply ≡ true

-- what is found of the run up to this place, with the event behind
abbrev pub IsOutcomeWith : Bounds → Course → ℕ → Event → List Event → ℕ → Outcome → Type 0
IsOutcomeWith limits course at e past most outcome =
    IsOutcome limits course.first past (take at course.events.items ++ e ∷ []) most outcome

-- the place of the event among those that are kept, and its lane
pub record IsReturnHere (judge : Judge) (number at lane : ℕ) : Type 0 where
  pub number_is : number ≡ judge.course.first + at
  pub seen : judge.course.seen ≤ at
  pub own : Reply
  pub there : slice_get judge.course.events.items at ≡ Some (Returns lane own)

-- the return with this number, or that it isn't kept
abbrev pub IsKeptReturn : Judge → ℕ → Option KeptReturn → Type 0
IsKeptReturn judge number None = ¬ CanTell judge number
IsKeptReturn judge number (Some kept) = IsReturnHere judge number kept.place kept.lane

abbrev pub replies_in : Option (Vec SmallReply Global) → Option (List SmallReply)
replies_in None = None
replies_in (Some replies) = Some replies.items

-- whether the reply is possible at the event, or too many positions are
abbrev pub IsPossibleSo : Judge → ℕ → SmallReply → Option Bool → Type 0
IsPossibleSo judge k reply (Some b) = (limits : Bounds) (run : List Event) → KeepsBase limits run judge →
    IsTrue b ↔ IsPossibleReply limits run k (reply_of reply)
IsPossibleSo judge k reply None = (limits : Bounds) (run : List Event) → KeepsBase limits run judge →
    AreTooManyFor limits run k judge.most reply
