use Rattle.std.proofs.Common.{◌≡◌, ◌<◌, ℕ, List, length, get_or, sym, ◌∙◌, ap, subst}
use Rattle.std.proofs.lemmas.Bool.{false≢true}
use Rattle.std.specs.Prelude.{take}
use Rattle.std.specs.List.{All}
use Rattle.stamp_explain.specs.declared.observed.Observation.{Observation}
use Rattle.stamp_explain.specs.Observed.{DoNotOverlap}
use Rattle.stamp_explain.specs.inner.Observed.{MayBeTold}
use Rattle.stamp_explain.proofs.Telling.{one_below, not_alone, not_apart}
use Rattle.stamp_explain.proofs.observed.is_observed.Goals as goal

pub returns-then-not-may_be_told : goal.returns-then-not-may_be_told
returns-then-not-may_be_told c =
    let h = c.args.observed.now in
    let e = c.index-entries-i.result in
    let same = c.entries-entries.ensures.entries in
    let within : c.loop-i.i < length h.entries = subst (λ (xs : List Observation). c.loop-i.i < length xs) same
    c.loop-i-test.true in
    let read : e ≡ get_or h.entries c.loop-i.i e = c.index-entries-i.is ∙ ap (λ (xs : List Observation). get_or xs
    c.loop-i.i e) same in (
      λ no. absurd (false≢true no),
      λ is. absurd (elim c.then-not-may_be_told.branch [
        | goal.then-not-may_be_told-via-then-not-may_be_told w ↦
            not_alone h c.loop-i.i e within read (λ sound. false≢true (sym w.if-not-may_be_told.true ∙
            c.may_be_told.ensures.1 (subst (λ (n : ℕ). MayBeTold n e) (sym c.width.ensures.width) sound))) is
        | goal.then-not-may_be_told-via-else-not-may_be_told+then-not-overlaps_none w ↦
            not_apart h c.loop-i.i e within read (λ apart. false≢true (sym w.if-not-overlaps_none.true ∙
            w.overlaps_none.ensures.1 (subst (λ (xs : List Observation). All (λ (other : Observation).
            DoNotOverlap other e) (take c.loop-i.i xs)) (sym same) apart))) is
      ]),
    )

pub loop-i-preserved : goal.loop-i-preserved
loop-i-preserved c =
    let h = c.args.observed.now in
    let e = c.index-entries-i.result in
    let same = c.entries-entries.ensures.entries in
    one_below h c.loop-i.i e (subst (λ (xs : List Observation). c.loop-i.i < length xs) same c.loop-i-test.true)
    (c.index-entries-i.is ∙ ap (λ (xs : List Observation). get_or xs c.loop-i.i e) same) c.loop-i.invariant
    (subst (λ (n : ℕ). MayBeTold n e) c.width.ensures.width (c.may_be_told.ensures.0 c.if-not-may_be_told.false))
    (subst (λ (xs : List Observation). All (λ (other : Observation). DoNotOverlap other e) (take c.loop-i.i xs))
    same (c.overlaps_none.ensures.0 c.if-not-overlaps_none.false))
