use Rattle.stamp_core.specs.declared.call.Call.TheVariants.{ToRead}
use Rattle.std.proofs.Common.{ap, refl}
use Rattle.stamp_core.specs.LockDecision.{reply_as}
use Rattle.stamped_value.specs.declared.view.Held.TheVariants.{Reading}
use Rattle.stamped_value.proofs.Outcomes.{downgraded}
use Rattle.stamped_value.proofs.Tokens.{calls_held, by_held}
use Rattle.stamped_value.proofs.guards.WriteGuard.downgrade.Goals as goal

pub invariant_of-result : goal.invariant_of-result
invariant_of-result g c = record {
  table = c.call.ensures.table;
  stands = c.call.ensures.stands;
  holds = (downgraded _ c.call.ensures.in_range _ _ _ _ c.self.invariant.holds _ (ap reply_as c.in-Stamp.is)
      c.call.ensures.made).0;
}

pub returns-clause-made : goal.returns-clause-made
returns-clause-made g c =
    let is = ap reply_as c.in-Stamp.is in
    let now = downgraded _ c.call.ensures.in_range _ _ _ _ c.self.invariant.holds _ is c.call.ensures.made in
    rw (← c.self.view_is) (by_held _ ToRead _ _ _ _ _ c.self.invariant.holds refl
    (calls_held _ _ _ _ _ c.call.ensures.made c.call.ensures.machine _ is
    (Reading c.in-Stamp.new) now.0 refl))

pub returns-clause-same : goal.returns-clause-same
returns-clause-same g c = rw (← c.self.view_is)
    (downgraded _ c.call.ensures.in_range _ _ _ _ c.self.invariant.holds _ (ap reply_as c.in-Stamp.is)
    c.call.ensures.made).1
