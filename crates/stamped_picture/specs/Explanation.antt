-- What explains an observed history, as far as anything does.
use Rattle.std.specs.Prelude.{ℕ, ◌≡◌, Option, None, Some, Vec, MatchOption, slice_get}
use Rattle.std.specs.declared.alloc.Global.{Global}
use Rattle.stamp_core.specs.Record.{Recorded}
use Rattle.stamp_core.specs.declared.reply.Reply.{Reply}
use Rattle.stamp_explain.specs.Cut.{IsStuck}
use Rattle.stamp_explain.specs.Observed.{ObservedHistory, IsObserved}
use Rattle.stamp_explain.specs.Points.{HasPoints}
use Rattle.stamp_explain.specs.Possible.{AreAllPossible, IsSeenUntil}
use Rattle.stamp_observed.specs.ObservedFault.{IsFirstFault}
use Rattle.stamp_watch.specs.History.{IsStuckBetween, IsUndecided}
use Rattle.stamp_watch.specs.Replies.{IsUndecidedAtAny}
use Rattle.stamped_picture.specs.declared.explanation.StuckReturn.{StuckReturn}
use Rattle.stamped_picture.specs.declared.explanation.Explanation.{Explanation}
use Rattle.stamped_picture.specs.declared.explanation.Explanation.TheVariants.{Faulty, Explained, Stuck}
use Rattle.stamped_picture.specs.declared.explanation.Explanation.TheVariants.{StuckWithin, Undecided}

-- all the replies that the call of this entry could have had; or that is undecided
abbrev pub ArePossibleAt : ObservedHistory → ℕ → ℕ → Option (Vec Reply Global) → Type 0
ArePossibleAt h most i found =
    MatchOption found (IsUndecidedAtAny h i most) (λ (replies : Vec Reply Global). AreAllPossible h i replies.items)

abbrev pub first_of : Option (Vec Reply Global) → Option Reply
first_of None = None
first_of (Some replies) = slice_get replies.items 0

-- no order is told, since that there is one is undecided
pub record GivesNoOrder (h : ObservedHistory) (most : ℕ) : Type 0 where
  pub entry : ℕ
  pub is : IsUndecided h most entry

-- this recorded history explains what is seen when the call of this entry has returned, with this reply or with
-- none; or that is undecided
pub record IsOrderUntil (h : ObservedHistory) (most i : ℕ) (reply : Option Reply) (found : Option Recorded) :
    Type 0 where
  pub seen : ObservedHistory
  pub is_seen : IsSeenUntil h i reply seen
  pub is : MatchOption found (GivesNoOrder seen most) (λ (order : Recorded). HasPoints seen order)

-- the history is stuck at this return, with all replies that were possible, and what explains it up to there with the
-- first of them
pub record IsStuckReturn (h : ObservedHistory) (most : ℕ) (stuck : StuckReturn) : Type 0 where
  pub is : IsStuck h stuck.entry
  pub possible : ArePossibleAt h most stuck.entry stuck.possible
  pub order : IsOrderUntil h most stuck.entry (first_of stuck.possible) stuck.order

-- its first fault. Or it may be observed, and: this recorded history is of it and linearized by its points; or it is
-- stuck at a return, or between the returns of these entries; or undecided at that of this entry
abbrev pub IsExplanation : ObservedHistory → ℕ → Explanation → Type 0
IsExplanation h most (Faulty fault) = IsFirstFault h fault.entry fault.why
IsExplanation h most (Explained order) = IsObserved h × HasPoints h order
IsExplanation h most (Stuck stuck) = IsObserved h × IsStuckReturn h most stuck
IsExplanation h most (StuckWithin i j) = IsObserved h × IsStuckBetween h most i j
IsExplanation h most (Undecided i) = IsObserved h × IsUndecided h most i
