use Rattle.stamped_lock.proofs.Accessing.{once_or_twice, asks_once}
use Rattle.stamped_lock.proofs.entered.Entered.once.Goals as goal

pub returns-clause-accesses : goal.returns-clause-accesses
returns-clause-accesses g c = rw (← c.self.view_is)
    (once_or_twice _ _ _ _ c.once_in.result c.once_in.ensures.accesses c.once_in.ensures.lost)

pub returns-clause-asked : goal.returns-clause-asked
returns-clause-asked g c is ok = rw (← c.self.view_is)
    (asks_once _ _ c.self.inside.pass.view c.once_in.new.pass.view c.once_in.result is ok c.once_in.ensures.machine)
