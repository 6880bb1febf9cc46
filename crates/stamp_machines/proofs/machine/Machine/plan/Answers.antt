use Rattle.stamp_machines.proofs.machine.Machine.plan.Goals as goal

pub returns-in-OnLock-clause-plans : goal.returns-in-OnLock-clause-plans
returns-in-OnLock-clause-plans c =
    λ h. rw (← c.self.view_is, c.in-OnLock.is) c.lock_access.ensures.plans
