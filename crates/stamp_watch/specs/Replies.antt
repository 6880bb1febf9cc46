-- Where it is undecided which replies a call of an observed history could have had.
use Rattle.std.specs.Prelude.{ℕ, ◌+◌, List, take, codes}
use Rattle.std.specs.List.{Contains}
use Rattle.stamp_core.specs.declared.reply.Reply.{Reply}
use Rattle.stamp_explain.specs.Observed.{ObservedHistory, IsReturnAt}
use Rattle.stamp_explain.specs.Possible.{with_reply}
use Rattle.stamp_runs.specs.declared.event.Event.{Event}
use Rattle.stamp_watch.specs.History.{IsRunOf, ReturnsAt}
use Rattle.stamp_watch.specs.Verdict.{IsTooManyAt}
use Rattle.stamp_watch.specs.declared.moments.Moment.{Moment}
use Rattle.stamp_watch.specs.declared.replies.PossibleError.{PossibleError}
use Rattle.stamp_watch.specs.declared.replies.PossibleError.TheVariants.{Undecided, Memory}

-- with this reply, before some event of the run up to the return of this entry more than so many different positions of
-- the lock, or of the record, are possible
pub record IsUndecidedAtReply (h : ObservedHistory) (i most : ℕ) (reply : Reply) : Type 0 where
  pub at : IsReturnAt h.entries i
  pub moments : List Moment
  pub run : List Event
  pub is_run : IsRunOf (with_reply i at.entry at.return reply h) moments run
  pub last : ℕ
  pub then : ReturnsAt (with_reply i at.entry at.return reply h) moments last i
  pub place : ℕ
  pub too_many : IsTooManyAt h.limits (take (last + 1) run) most place

-- so it is with one of those that were tried
abbrev pub IsUndecidedAtSome : ObservedHistory → ℕ → ℕ → List Reply → Type 0
IsUndecidedAtSome h i most tried = (reply : Reply) × (Contains tried reply × IsUndecidedAtReply h i most reply)

-- so it is with some reply
abbrev pub IsUndecidedAtAny : ObservedHistory → ℕ → ℕ → Type 0
IsUndecidedAtAny h i most = (reply : Reply) × IsUndecidedAtReply h i most reply

-- why it is not told which replies are possible
abbrev pub possible_error_text : PossibleError → List ℕ
possible_error_text Undecided = codes "the possible replies are undecided"
possible_error_text Memory = codes "out of memory"
