use Rattle.std.proofs.Common.{◌∙◌, ap, subst, refl}
use Rattle.stamp_core.specs.Limits.{AreInRange}
use Rattle.stamped_value.specs.ValueLock.{ValueLock}
use Rattle.stamped_value.proofs.Calling.{begins, is_made_by_answer}
use Rattle.stamped_value.proofs.Standing.{stands_after}
use Rattle.stamped_value.proofs.Validating.{says_so, told_by_test}
use Rattle.stamped_value.proofs.guarded.Guarded.ask_is_last.Goals as goal

pub returns-clause-stands : goal.returns-clause-stands
returns-clause-stands g c =
    let limits = c.self.invariant.0 ∙ ap (λ (l : ValueLock _). l.limits) c.self.view_is in
    let range = subst AreInRange (ap (λ (l : ValueLock _). l.limits) c.self.view_is) c.self.invariant.1 in
    let asked = begins _ _ _ _ _ refl (rw limits at c.load-found.ensures.learned) in
    let made = is_made_by_answer _ _ _ _ _ asked _ (says_so _ _ _ range) in
    stands_after _ range _ refl _ _ _ c.requires.stands tt made

pub returns-clause-answer : goal.returns-clause-answer
returns-clause-answer g c =
    let limits = c.self.invariant.0 ∙ ap (λ (l : ValueLock _). l.limits) c.self.view_is in
    let range = subst AreInRange (ap (λ (l : ValueLock _). l.limits) c.self.view_is) c.self.invariant.1 in
    let layout = c.layout.ensures.layout ∙ ap (λ (l : ValueLock _). l.limits.layout) c.self.view_is in
    let tells = rw limits at c.load-found.ensures.learned in
    let asked = begins _ _ _ _ _ refl tells in (
      _,
      is_made_by_answer _ _ _ _ _ asked _ (says_so _ _ _ range),
      told_by_test _ _ _ range _ tells.pass.left.represents _ (rw layout at c.validates_reader.ensures),
    )
