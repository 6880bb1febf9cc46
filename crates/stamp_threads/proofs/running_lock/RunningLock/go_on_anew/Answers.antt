use Rattle.stamp_threads.proofs.running_lock.RunningLock.go_on_anew.Goals as goal

pub returns-clause-machine : goal.returns-clause-machine
returns-clause-machine g c =
    rw (← c.anew-again.ensures) (λ v is. c.go_on.ensures.machine v is)
