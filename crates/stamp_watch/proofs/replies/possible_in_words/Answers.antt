use Rattle.std.proofs.Common.{ℕ, ◌∙◌, Option, Bool, subst, sym}
use Rattle.std.proofs.lemmas.Bool.{false≢true}
use Rattle.stamp_core.specs.declared.reply.Reply.{Reply}
use Rattle.stamp_runs.specs.Names.{EachOfReply}
use Rattle.stamp_watch.specs.ReplyLaws.{IsContentOf}
use Rattle.stamp_watch.specs.inner.Names.{IsReplyBy, IsToldAs}
use Rattle.stamp_watch.specs.inner.Trial.{IsReplyIn, IsTried}
use Rattle.stamp_watch.proofs.TriedReplies.{as_known, known_if_possible, possible_so, reply_by_number, reply_in}
use Rattle.stamp_watch.proofs.TriedReplies.{undecided_so}
use Rattle.stamp_watch.proofs.replies.possible_in_words.Goals as goal
use Rattle.stamp_watch.proofs.replies.possible_in_words.Goals.{In-Some, In_ok-is_possible}

by_number : (c : In-Some) → IsReplyBy c.args.names.now c.in-Some.reply c.args.small
by_number c = subst (λ (o : Option Reply). IsToldAs c.args.names.now c.args.small o) c.in-Some.is c.told_as.ensures

pub returns-then-not-is_known_reply-clause-found : goal.returns-then-not-is_known_reply-clause-found
returns-then-not-is_known_reply-clause-found c i most is told its possible =
    false≢true (sym c.if-not-is_known_reply.true ∙ c.is_known_reply.ensures.known.1
    (subst (λ (n : ℕ). EachOfReply (IsContentOf n) c.in-Some.reply) (sym c.width.ensures.width)
    (as_known (IsContentOf c.args.observed.now.width) c.args.names.now c.in-Some.reply told c.args.small
    (by_number (goal.at.returns-then-not-is_known_reply-clause-found c).In-Some) (reply_by_number its)
    (known_if_possible is told possible))))

its_number : (c : In_ok-is_possible) → IsReplyIn c.args.observed.now c.args.names.now c.in-Some.reply c.args.small
its_number c = reply_in c.args.observed.now c.args.names.now c.in-Some.reply c.args.small
    (subst (λ (n : ℕ). EachOfReply (IsContentOf n) c.in-Some.reply) c.width.ensures.width
    (c.is_known_reply.ensures.known.0 c.if-not-is_known_reply.false))
    (subst (λ (o : Option Reply). IsToldAs c.args.names.now c.args.small o) c.in-Some.is c.told_as.ensures)

pub returns-in-Some-true-clause-found : goal.returns-in-Some-true-clause-found
returns-in-Some-true-clause-found c i most is =
    let its = its_number (goal.at.returns-in-Some-true-clause-found c).In_ok-is_possible in record {
      possible = (possible_so is c.in-Some.reply c.args.small its c.in-Some-true.field-0
          (subst (λ (o : Option Bool). IsTried c.args.observed.now.limits c.args.trial.now c.args.small o)
          c.in-Some-true.is (c.in_ok-is_possible.ensures c.args.observed.now.limits is.trial_is))).0
          c.in-Some-true.field-0-test;
      its_number = its;
    }

pub returns-in-Some-false-clause-found : goal.returns-in-Some-false-clause-found
returns-in-Some-false-clause-found c i most is told its possible =
    false≢true (sym c.in-Some-false.field-0-test ∙ (possible_so is told c.args.small its c.in-Some-false.field-0
    (subst (λ (o : Option Bool). IsTried c.args.observed.now.limits c.args.trial.now c.args.small o)
    c.in-Some-false.is (c.in_ok-is_possible.ensures c.args.observed.now.limits is.trial_is))).1 possible)

pub returns-in-None-clause-undecided : goal.returns-in-None-clause-undecided
returns-in-None-clause-undecided c _ i most is = (
  c.in-Some.reply,
  undecided_so is c.in-Some.reply c.args.small
      (its_number (goal.at.returns-in-None-clause-undecided c).In_ok-is_possible)
      (subst (λ (o : Option Bool). IsTried c.args.observed.now.limits c.args.trial.now c.args.small o) c.in-None.is
      (c.in_ok-is_possible.ensures c.args.observed.now.limits is.trial_is)),
)
