use Rattle.std.proofs.Common.{◌∙◌, ap, subst}
use Rattle.stamp_core.specs.Limits.{AreInRange}
use Rattle.stamped_value.specs.ValueLock.{ValueLock}
use Rattle.stamped_value.proofs.Questions.{asks_lock, may_ask}
use Rattle.stamped_value.proofs.Calling.{begins, is_made_by_answer}
use Rattle.stamped_value.proofs.Standing.{stands_after}
use Rattle.stamped_value.proofs.guarded.Guarded.ask.Goals as goal

pub returns-clause-made : goal.returns-clause-made
returns-clause-made g c =
    let limits = c.self.invariant.0 ∙ ap (λ (l : ValueLock _). l.limits) c.self.view_is in
    let lock = asks_lock _ c.requires.question in
    let asked = begins _ _ _ _ _ lock (rw limits at c.load-found.ensures.learned) in
    is_made_by_answer _ _ _ _ _ asked _ c.in-Answer.ensures.decides

pub returns-clause-stands : goal.returns-clause-stands
returns-clause-stands g c =
    let limits = c.self.invariant.0 ∙ ap (λ (l : ValueLock _). l.limits) c.self.view_is in
    let range = subst AreInRange (ap (λ (l : ValueLock _). l.limits) c.self.view_is) c.self.invariant.1 in
    let lock = asks_lock _ c.requires.question in
    let asked = begins _ _ _ _ _ lock (rw limits at c.load-found.ensures.learned) in
    let made = is_made_by_answer _ _ _ _ _ asked _ c.in-Answer.ensures.decides in
    stands_after _ range _ lock _ _ _ c.requires.stands (may_ask _ _ c.requires.question) made
