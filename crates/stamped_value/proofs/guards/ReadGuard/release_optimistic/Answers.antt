use Rattle.std.proofs.Common.{ap}
use Rattle.stamp_core.specs.LockDecision.{reply_as}
use Rattle.stamped_value.proofs.ReleasingTo.{free_by_read, releases_read_to}
use Rattle.stamped_value.proofs.guards.ReadGuard.release_optimistic.Goals as goal

pub invariant_of-result : goal.invariant_of-result
invariant_of-result g c = record {
  table = c.call.ensures.table;
  stands = c.call.ensures.stands;
  holds = free_by_read c.self.inside.value.now c.call.ensures.in_range _ _ _ _ _ (ap reply_as c.in-Stamp.is) c.self.invariant.stands
      c.call.ensures.stands c.call.ensures.made c.call.ensures.machine c.self.invariant.holds;
}

pub returns : goal.returns
returns g c = rw (← c.self.view_is) (releases_read_to _ c.call.ensures.in_range _ _ _ _ _ (ap reply_as c.in-Stamp.is)
    c.self.invariant.stands c.call.ensures.stands c.call.ensures.made c.call.ensures.machine c.self.invariant.holds)
