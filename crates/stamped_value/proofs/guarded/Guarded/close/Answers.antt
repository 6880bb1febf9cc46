use Rattle.std.proofs.Common.{◌∙◌, ap, subst}
use Rattle.stamp_core.specs.Limits.{AreInRange}
use Rattle.stamped_value.specs.ValueLock.{ValueLock}
use Rattle.stamped_value.proofs.Ending.{ends_with_last, ends_with_writer}
use Rattle.stamped_value.proofs.guarded.Guarded.close.Goals as goal

pub returns-then-is_writing-clause-ends : goal.returns-then-is_writing-clause-ends
returns-then-is_writing-clause-ends g c =
    let same = ap (λ (l : ValueLock _). l.limits) c.self.view_is in
    let limits = c.self.invariant.0 ∙ same in
    let first = ap (λ (l : ValueLock _). l.first) c.self.view_is in
    ends_with_writer _ _ _ _ _ (rw (limits, first) at c.close-word.ensures.last)
    (subst AreInRange same c.self.invariant.1) _ (rw (c.word.ensures, same) at c.is_writing.ensures)
    c.if-is_writing.true

pub returns-else-is_writing-clause-ends : goal.returns-else-is_writing-clause-ends
returns-else-is_writing-clause-ends g c =
    let same = ap (λ (l : ValueLock _). l.limits) c.self.view_is in
    let limits = c.self.invariant.0 ∙ same in
    let first = ap (λ (l : ValueLock _). l.first) c.self.view_is in
    ends_with_last _ _ _ _ _ (rw (limits, first) at c.close-word.ensures.last)
    (subst AreInRange same c.self.invariant.1) _ (rw (c.word.ensures, same) at c.is_writing.ensures)
    c.if-is_writing.false
