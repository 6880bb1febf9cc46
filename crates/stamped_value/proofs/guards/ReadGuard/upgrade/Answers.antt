use Rattle.stamp_core.specs.declared.call.Call.TheVariants.{ToWrite}
use Rattle.std.proofs.Common.{ap, refl, ◌∙◌, arith}
use Rattle.stamp_core.specs.LockDecision.{reply_as}
use Rattle.stamp_core.specs.declared.reply.Reply.TheVariants.{Stamp}
use Rattle.stamped_value.specs.declared.view.Held.TheVariants.{Writing}
use Rattle.stamped_value.proofs.Outcomes.{upgraded}
use Rattle.stamped_value.proofs.Tokens.{calls_by, calls_held, by_held}
use Rattle.stamped_value.proofs.guards.ReadGuard.upgrade.Goals as goal

pub invariant_of-result : goal.invariant_of-result
invariant_of-result g c =
    let now = upgraded _ c.call.ensures.in_range _ _ _ _ (ap reply_as c.in-Stamp.is) _ c.self.invariant.holds
    c.call.ensures.made in record {
      table = c.call.ensures.table;
      stands = c.call.ensures.stands;
      holds = (now.1 c.if-new-eq0.true).0 ∙ c.self.invariant.holds;
    }

pub returns-then-new-eq0-clause-err : goal.returns-then-new-eq0-clause-err
returns-then-new-eq0-clause-err g c = rw (← c.self.view_is) (by_held _ ToWrite _ _ _ _ _ c.self.invariant.holds refl
    (calls_by _ _ _ _ _ c.call.ensures.made c.call.ensures.machine _
    (ap reply_as c.in-Stamp.is ∙ ap Stamp c.if-new-eq0.true)))

pub returns-then-new-eq0-clause-kept : goal.returns-then-new-eq0-clause-kept
returns-then-new-eq0-clause-kept g c =
    let now = upgraded _ c.call.ensures.in_range _ _ _ _ (ap reply_as c.in-Stamp.is) _ c.self.invariant.holds
    c.call.ensures.made in rw (← c.self.view_is) (now.1 c.if-new-eq0.true)

pub invariant_of-result-2 : goal.invariant_of-result-2
invariant_of-result-2 g c =
    let now = upgraded _ c.call.ensures.in_range _ _ _ _ (ap reply_as c.in-Stamp.is) _ c.self.invariant.holds
    c.call.ensures.made in record {
      table = c.call.ensures.table;
      stands = c.call.ensures.stands;
      holds = (now.0 (omega arith)).0.0;
    }

pub returns-clause-ok : goal.returns-clause-ok
returns-clause-ok g c =
    let is = ap reply_as c.in-Stamp.is in
    let now = upgraded _ c.call.ensures.in_range _ _ _ _ is _ c.self.invariant.holds c.call.ensures.made in
    rw (← c.self.view_is) (by_held _ ToWrite _ _ _ _ _ c.self.invariant.holds refl
    (calls_held _ _ _ _ _ c.call.ensures.made c.call.ensures.machine _ is
    (Writing c.in-Stamp.new) (now.0 (omega arith)).0.0 refl))

pub returns-clause-same : goal.returns-clause-same
returns-clause-same g c =
    let now = upgraded _ c.call.ensures.in_range _ _ _ _ (ap reply_as c.in-Stamp.is) _ c.self.invariant.holds
    c.call.ensures.made in rw (← c.self.view_is) (now.0 (omega arith)).1

pub returns-clause-last : goal.returns-clause-last
returns-clause-last g c =
    let now = upgraded _ c.call.ensures.in_range _ _ _ _ (ap reply_as c.in-Stamp.is) _ c.self.invariant.holds
    c.call.ensures.made in (now.0 (omega arith)).0.1
