use Rattle.stamped_value.proofs.Outcomes.{released_write}
use Rattle.stamped_value.proofs.Releasing.{releases_write}
use Rattle.stamped_value.proofs.guards.WriteGuard.release.Goals as goal

pub invariant_of-result : goal.invariant_of-result
invariant_of-result g c = record {
  table = c.call.ensures.table;
  stands = c.call.ensures.stands;
  holds = (released_write _ c.call.ensures.in_range _ _ _ _ c.self.invariant.holds c.call.ensures.made).1;
}

pub returns-clause-made : goal.returns-clause-made
returns-clause-made g c = rw (← c.self.view_is) (releases_write _ c.call.ensures.in_range _ _ _ _
    c.self.invariant.holds c.call.ensures.made c.call.ensures.machine)

pub returns-clause-leaves : goal.returns-clause-leaves
returns-clause-leaves g c = rw (← c.self.view_is)
    (released_write _ c.call.ensures.in_range _ _ _ _ c.self.invariant.holds c.call.ensures.made).2
