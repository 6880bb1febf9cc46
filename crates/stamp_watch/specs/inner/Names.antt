-- Contents by numbers, step by step.
use Rattle.std.specs.Prelude.{ℕ, ◌≡◌, List, Option, MatchOption}
use Rattle.stamp_core.specs.declared.call.Call.{Call}
use Rattle.stamp_core.specs.declared.reply.Reply.{Reply}
use Rattle.stamp_runs.specs.Names.{EachOfCall, EachOfReply, call_by, reply_by}
use Rattle.stamp_sets.specs.SmallCall.{call_of, reply_of}
use Rattle.stamp_sets.specs.declared.small_call.SmallCall.{SmallCall}
use Rattle.stamp_sets.specs.declared.small_call.SmallReply.{SmallReply}
use Rattle.stamp_watch.specs.Names.{IsNamed, IsWide, name_in, width_of}

-- the call by the numbers of its contents; or one has another width
pub record IsCallBy (contents : List (List ℕ)) (call : Call) (small : SmallCall) : Type 0 where
  pub named : EachOfCall (IsNamed contents) call
  pub small_is : call_of small ≡ call_by (name_in contents) call

abbrev pub IsSmallCall : List (List ℕ) → List (List ℕ) → Call → Option SmallCall → Type 0
IsSmallCall old new call small =
    MatchOption small (¬ EachOfCall (IsWide (width_of old)) call) (IsCallBy new call)

pub record IsReplyBy (contents : List (List ℕ)) (reply : Reply) (small : SmallReply) : Type 0 where
  pub named : EachOfReply (IsNamed contents) reply
  pub small_is : reply_of small ≡ reply_by (name_in contents) reply

abbrev pub IsSmallReply : List (List ℕ) → List (List ℕ) → Reply → Option SmallReply → Type 0
IsSmallReply old new reply small =
    MatchOption small (¬ EachOfReply (IsWide (width_of old)) reply) (IsReplyBy new reply)

-- the reply that this one tells by numbers; or none does
abbrev pub IsToldAs : List (List ℕ) → SmallReply → Option Reply → Type 0
IsToldAs contents small told =
    MatchOption told ((reply : Reply) → ¬ IsReplyBy contents reply small)
    (λ (reply : Reply). IsReplyBy contents reply small)
