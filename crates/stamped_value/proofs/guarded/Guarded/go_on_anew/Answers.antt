use Rattle.stamped_value.proofs.guarded.Guarded.go_on_anew.Goals as goal

pub returns-clause-made : goal.returns-clause-made
returns-clause-made g c = rw (← c.anew-again.ensures) (λ v is. c.go_on.ensures.made v is)

pub returns-clause-machine : goal.returns-clause-machine
returns-clause-machine g c = rw (← c.anew-again.ensures) (λ v is. c.go_on.ensures.machine v is)
