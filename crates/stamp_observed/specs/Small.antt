-- When an observed history is stuck as another one.
use Rattle.std.specs.Prelude.{ℕ, ◌≡◌, ◌+◌, List, map, Option, Some, None}
use Rattle.std.specs.List.{All, Contains}
use Rattle.stamp_core.specs.Layout.{Units}
use Rattle.stamp_core.specs.Limits.{units}
use Rattle.stamp_core.specs.declared.reply.Reply.{Reply}
use Rattle.stamp_explain.specs.declared.observed.Observation.{Observation}
use Rattle.stamp_explain.specs.declared.observed.Returned.{Returned}
use Rattle.stamp_explain.specs.Cut.{IsStuck, seen_at}
use Rattle.stamp_explain.specs.Observed.{ObservedHistory, IsObserved, IsReturnAt}
use Rattle.stamp_explain.specs.Possible.{AreAllPossible}
use Rattle.stamp_observed.specs.Issued.{AreStampsKept}
use Rattle.stamp_observed.specs.Renumbering.{renumbered_call, renumbered_reply}
use Rattle.stamp_watch.specs.Replies.{IsUndecidedAtAny}

-- all the replies that the call of this entry could have had; or that is undecided
abbrev pub ArePossibleAt : ObservedHistory → ℕ → ℕ → Option (List Reply) → Type 0
ArePossibleAt h most i None = IsUndecidedAtAny h i most
ArePossibleAt h most i (Some replies) = AreAllPossible h i replies

-- each reply of one list is in the other
pub record HaveSame (xs ys : List Reply) : Type 0 where
  pub first : All (Contains ys) xs
  pub second : All (Contains xs) ys

-- these replies are all that the call of this entry could have had; nothing is said where they are undecided
abbrev pub ArePossibleToo : ObservedHistory → ℕ → Option (List Reply) → Type 0
ArePossibleToo h i None = Unit {0}
ArePossibleToo h i (Some replies) = (found : List Reply) × (AreAllPossible h i found × HaveSame replies found)

-- with stamps renumbered
abbrev pub renumbered_possible : Units → ℕ → Option (List Reply) → Option (List Reply)
renumbered_possible u k None = None
renumbered_possible u k (Some replies) = Some (map (renumbered_reply u k) replies)

-- one returned call is another one, by the same thread, with stamps renumbered
pub record IsRenumbered (u : Units) (k : ℕ) (e : Observation) (r : Returned) (f : Observation) (s : Returned) : Type 0
  where
    pub thread : f.thread ≡ e.thread
    pub call : f.call ≡ renumbered_call u k e.call
    pub reply : s.reply ≡ renumbered_reply u k r.reply

-- nothing in a history is later than this return, of the call of this entry: what is seen then is all of it. So no
-- call begins behind it, and each other that has returned did so before, or at that position and is listed before
abbrev pub IsCutThere : ObservedHistory → ℕ → Returned → Type 0
IsCutThere h i r = seen_at r.last (i + 1) h ≡ h

-- a history under the same limits is stuck, at the return of a call that is the one of this entry with stamps
-- renumbered, and nothing in it is later; the same replies were possible, renumbered; and the stamp that the call
-- takes was issued there too, if it was
pub record IsStuckAs (h : ObservedHistory) (most i : ℕ) (small : ObservedHistory) : Type 0 where
  pub observed : IsObserved small
  pub limits : small.limits ≡ h.limits
  pub width : small.width ≡ h.width
  pub at : IsReturnAt h.entries i
  pub place : ℕ
  pub there : IsReturnAt small.entries place
  pub stuck : IsStuck small place
  pub whole : IsCutThere small place there.return
  pub versions : ℕ
  pub renumbered : IsRenumbered (units h.limits) versions at.entry at.return there.entry there.return
  pub kept : AreStampsKept h at.entry at.return versions small.entries there.entry.first
  pub replies : Option (List Reply)
  pub possible : ArePossibleAt h most i replies
  pub too : ArePossibleToo small place (renumbered_possible (units h.limits) versions replies)
