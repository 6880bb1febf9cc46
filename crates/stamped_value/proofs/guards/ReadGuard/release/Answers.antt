use Rattle.stamped_value.proofs.Outcomes.{released_read}
use Rattle.stamped_value.proofs.Releasing.{releases_read}
use Rattle.stamped_value.proofs.guards.ReadGuard.release.Goals as goal

pub invariant_of-result : goal.invariant_of-result
invariant_of-result g c = record {
  table = c.release_read.ensures.table;
  stands = c.release_read.ensures.stands;
  holds = (released_read _ c.release_read.ensures.in_range _ _ _ _ c.self.invariant.holds
      c.release_read.ensures.made).1;
}

pub returns : goal.returns
returns g c = rw (← c.self.view_is) (releases_read _ c.release_read.ensures.in_range _ _ _ _ c.self.invariant.holds
    c.release_read.ensures.made c.release_read.ensures.machine)
