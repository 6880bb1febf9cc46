use Rattle.std.proofs.Common.{ℕ, ◌∙◌, Option, Bool, subst, sym}
use Rattle.std.proofs.lemmas.Bool.{false≢true}
use Rattle.stamp_sets.specs.declared.small_call.SmallReply.{SmallReply}
use Rattle.stamp_runs.specs.Names.{EachOfReply}
use Rattle.stamp_watch.specs.ReplyLaws.{IsContentOf}
use Rattle.stamp_watch.specs.inner.Names.{IsSmallReply}
use Rattle.stamp_watch.specs.inner.Trial.{IsReplyIn, IsTried}
use Rattle.stamp_watch.proofs.TriedReplies.{known_if_possible, known_wide, possible_so, reply_in, undecided_so}
use Rattle.stamp_watch.proofs.Trying.{trial_still}
use Rattle.stamp_watch.proofs.replies.is_possible.Goals as goal
use Rattle.stamp_watch.proofs.replies.is_possible.Goals.{In-Some}

pub returns-then-not-is_known_reply-clause-possible : goal.returns-then-not-is_known_reply-clause-possible
returns-then-not-is_known_reply-clause-possible c i most is = (
  (λ no. absurd (false≢true no)),
  (λ possible. absurd (false≢true (sym c.if-not-is_known_reply.true ∙ c.is_known_reply.ensures.known.1
      (subst (λ (n : ℕ). EachOfReply (IsContentOf n) c.args.reply.now) (sym c.width.ensures.width)
      (known_if_possible is c.args.reply.now possible))))),
)

pub unreachable-requires : goal.unreachable-requires
unreachable-requires c =
    let none = subst (λ (o : Option SmallReply). IsSmallReply c.args.names.now c.reply.new.self c.args.reply.now o)
    c.in_default.is c.in_ok-small.ensures.reply in
    none (known_wide c.args.observed.now c.args.names.now c.args.reply.now c.requires.2.contents_are
    (subst (λ (n : ℕ). EachOfReply (IsContentOf n) c.args.reply.now) c.width.ensures.width
    (c.is_known_reply.ensures.known.0 c.if-not-is_known_reply.false)))

its_number : (c : In-Some) → IsReplyIn c.args.observed.now c.reply.new.self c.args.reply.now c.in-Some.small
its_number c = reply_in c.args.observed.now c.reply.new.self c.args.reply.now c.in-Some.small
    (subst (λ (n : ℕ). EachOfReply (IsContentOf n) c.args.reply.now) c.width.ensures.width
    (c.is_known_reply.ensures.known.0 c.if-not-is_known_reply.false))
    (subst (λ (o : Option SmallReply). IsSmallReply c.args.names.now c.reply.new.self c.args.reply.now o) c.in-Some.is
    c.in_ok-small.ensures.reply)

pub returns-in-Some-2-clause-possible : goal.returns-in-Some-2-clause-possible
returns-in-Some-2-clause-possible c i most is = possible_so
    (trial_still c.in_ok-small.ensures.grows c.args.observed.now i most c.args.trial.now c.in_ok-small.ensures.wide is)
    c.args.reply.now c.in-Some.small (its_number (goal.at.returns-in-Some-2-clause-possible c).In-Some)
    c.in-Some-2.answer (subst (λ (o : Option Bool). IsTried c.args.observed.now.limits c.args.trial.now
    c.in-Some.small o) c.in-Some-2.is (c.in_ok-answer.ensures c.args.observed.now.limits is.trial_is))

pub returns-in-None-clause-undecided : goal.returns-in-None-clause-undecided
returns-in-None-clause-undecided c _ i most is = undecided_so
    (trial_still c.in_ok-small.ensures.grows c.args.observed.now i most c.args.trial.now c.in_ok-small.ensures.wide is)
    c.args.reply.now c.in-Some.small (its_number (goal.at.returns-in-None-clause-undecided c).In-Some)
    (subst (λ (o : Option Bool). IsTried c.args.observed.now.limits c.args.trial.now c.in-Some.small o) c.in-None.is
    (c.in_ok-answer.ensures c.args.observed.now.limits is.trial_is))
