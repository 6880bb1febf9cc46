use Rattle.std.proofs.Common.{Option, sym, subst}
use Rattle.stamp_core.specs.declared.reply.Reply.{Reply}
use Rattle.stamped_picture.specs.Explanation.{IsOrderUntil}
use Rattle.stamped_picture.specs.inner.Explanation.{IsExplainedUntil}
use Rattle.stamped_picture.proofs.Until.{explained_until}
use Rattle.stamped_picture.proofs.explanation.stuck_return.Goals as goal

pub order_until-requires-clause-explained : goal.order_until-requires-clause-explained
order_until-requires-clause-explained c = subst (λ (reply : Option Reply). IsExplainedUntil c.args.observed.now
    c.args.entry reply) (sym c.first_of.ensures) (explained_until c.args.most c.in_ok-possible.possible
    c.requires.observed c.requires.stuck c.in_ok-possible.ensures)

pub returns : goal.returns
returns c = record {
  is = c.requires.stuck;
  possible = c.in_ok-possible.ensures;
  order = subst (λ (reply : Option Reply). IsOrderUntil c.args.observed.now c.args.most c.args.entry reply
      c.in_ok-order.order) c.first_of.ensures c.in_ok-order.ensures;
}
