use Rattle.std.proofs.Common.{◌∙◌, ap, subst, refl}
use Rattle.stamp_core.specs.Limits.{AreInRange}
use Rattle.stamped_value.specs.ValueLock.{ValueLock}
use Rattle.stamped_value.proofs.Standing.{stands_after}
use Rattle.stamped_value.proofs.Taking.{released, goes_as_machine}
use Rattle.stamped_value.proofs.guarded.Guarded.release_read.Goals as goal

pub returns-clause-made : goal.returns-clause-made
returns-clause-made g c =
    let limits = c.self.invariant.0 ∙ ap (λ (l : ValueLock _). l.limits) c.self.view_is in
    let range = subst AreInRange (ap (λ (l : ValueLock _). l.limits) c.self.view_is) c.self.invariant.1 in
    released _ range _ _ _ _ (rw limits at c.take_reader.ensures.taken) c.requires.held

pub returns-clause-stands : goal.returns-clause-stands
returns-clause-stands g c =
    let limits = c.self.invariant.0 ∙ ap (λ (l : ValueLock _). l.limits) c.self.view_is in
    let range = subst AreInRange (ap (λ (l : ValueLock _). l.limits) c.self.view_is) c.self.invariant.1 in
    let made = released _ range _ _ _ _ (rw limits at c.take_reader.ensures.taken) c.requires.held in
    stands_after _ range _ refl _ _ _ c.requires.stands c.requires.held made

pub returns-clause-machine : goal.returns-clause-machine
returns-clause-machine g c =
    let limits = c.self.invariant.0 ∙ ap (λ (l : ValueLock _). l.limits) c.self.view_is in
    let range = subst AreInRange (ap (λ (l : ValueLock _). l.limits) c.self.view_is) c.self.invariant.1 in
    goes_as_machine _ range _ _ _ _ (rw limits at c.take_reader.ensures.taken) c.requires.held

pub take_reader-requires-clause-hold : goal.take_reader-requires-clause-hold
take_reader-requires-clause-hold g c = c.requires.stands.hold
