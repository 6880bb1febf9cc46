use Rattle.std.proofs.Common.{◌≡◌, ◌+◌, Option, None, Some, IfOk, sym, subst}
use Rattle.stamp_core.specs.declared.reply.Reply.{Reply}
use Rattle.stamp_explain.specs.Cut.{seen_at}
use Rattle.stamp_explain.specs.Observed.{ObservedHistory, IsObserved}
use Rattle.stamp_explain.specs.Possible.{IsSeenUntil, seen_with}
use Rattle.stamp_explain.proofs.Replying.{read_at}
use Rattle.stamp_explain.proofs.Returning.{ReturnsSo, tried_is_observed, is_seen_until, until_is_observed}
use Rattle.stamp_explain.proofs.until.seen_until.Goals as goal
use Rattle.stamp_explain.proofs.until.seen_until.Goals.{In-Some, After-seen_at-2}

returns_so : (c : In-Some) → ReturnsSo c.args.observed.now c.args.entry c.index-entries-entry.result c.in-Some.returned
returns_so c = record {
  is_entry = read_at c.args.observed.now c.index-entries-entry.result c.entries.result.now c.requires.returned
      c.index-entries-entry.is c.entries.ensures.entries;
  returned = c.in-Some.is;
  observed = c.requires.observed;
}

pub returns-in_default-reply-clause-seen : goal.returns-in_default-reply-clause-seen
returns-in_default-reply-clause-seen c = subst (λ (o : Option Reply). IfOk c.seen_at.result (λ (seen : ObservedHistory).
    IsSeenUntil c.args.observed.now c.args.entry o seen)) (sym c.in_default-reply.is)
    (is_seen_until None c.seen_at.result (returns_so (goal.at.returns-in_default-reply-clause-seen c).In-Some)
    c.seen_at.ensures)

pub returns-in_default-reply-clause-told : goal.returns-in_default-reply-clause-told
returns-in_default-reply-clause-told c = until_is_observed None c.seen_at.result
    (returns_so (goal.at.returns-in_default-reply-clause-told c).In-Some) c.seen_at.ensures

-- it was made of the history with the other reply
made : (c : After-seen_at-2) → IfOk c.seen_at-2.result (λ (seen : ObservedHistory). seen ≡ seen_with c.args.entry
    c.index-entries-entry.result c.in-Some.returned (Some c.in-Some-reply.reply) c.args.observed.now)
made c = subst (λ (h : ObservedHistory). IfOk c.seen_at-2.result (λ (seen : ObservedHistory). seen ≡
    seen_at c.in-Some.returned.last (c.args.entry + 1) h)) c.in_ok-tried.ensures c.seen_at-2.ensures

pub seen_at-requires-2 : goal.seen_at-requires-2
seen_at-requires-2 c = subst IsObserved (sym c.in_ok-tried.ensures) (tried_is_observed c.in-Some-reply.reply
    (returns_so (goal.at.seen_at-requires-2 c).In-Some))

pub returns-clause-seen : goal.returns-clause-seen
returns-clause-seen c = subst (λ (o : Option Reply). IfOk c.seen_at-2.result (λ (seen : ObservedHistory).
    IsSeenUntil c.args.observed.now c.args.entry o seen)) (sym c.in-Some-reply.is)
    (is_seen_until (Some c.in-Some-reply.reply) c.seen_at-2.result
    (returns_so (goal.at.returns-clause-seen c).In-Some) (made (goal.at.returns-clause-seen c).After-seen_at-2))

pub returns-clause-told : goal.returns-clause-told
returns-clause-told c = until_is_observed (Some c.in-Some-reply.reply) c.seen_at-2.result
    (returns_so (goal.at.returns-clause-told c).In-Some) (made (goal.at.returns-clause-told c).After-seen_at-2)
