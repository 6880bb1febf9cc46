use Rattle.std.proofs.Common.{sym, ◌∙◌, inl, inr}
use Rattle.stamp_sets.specs.Judged.{judged}
use Rattle.stamp_sets.proofs.Effects.{none_found, not_true, some_number}
use Rattle.stamp_sets.proofs.layers.is_passed_over.Goals as goal

pub returns-then-is_some : goal.returns-then-is_some
returns-then-is_some c is = let some = some_number c.overwrites.result (sym c.is_some.ensures ∙ c.if-is_some.true) in
    inl (some.0, sym c.overwrites.ensures.value ∙ some.1)

pub returns-then-is_unchanging : goal.returns-then-is_unchanging
returns-then-is_unchanging c is = inr (inl (
  sym (c.is_unchanging.ensures.value) ∙ c.if-is_unchanging.true,
  c.if-lane-awaited.true,
))

pub returns : goal.returns
returns c is = inr (inr (
  c.in_default.not-Never,
  none_found (judged c.args.object.now) c.args.begun.now c.args.state
      c.state_after.result (c.is_none.ensures ∙ not_true c.is_none.result is) c.state_after.ensures,
))
