use Rattle.std.proofs.Common.{subst, arith, refl}
use Rattle.std.specs.List.{All}
use Rattle.std.proofs.lemmas.List.{take_all}
use Rattle.std.proofs.lemmas.List.Elements.{All-more}
use Rattle.stamp_explain.specs.Observed.{IsLow}
use Rattle.stamp_explain.proofs.observed.are_low.Goals as goal

pub loop-entry-preserved : goal.loop-entry-preserved
loop-entry-preserved c =
    All-more IsLow c.args.entries.now c.loop-entry.entry-index c.entry-item.result c.loop-entry-test.true
    c.loop-entry.invariant (subst IsLow c.entry-item.is (c.is_low.ensures.0 c.if-not-is_low.false))

pub returns : goal.returns
returns c = (
  λ _. subst (All IsLow) (take_all c.loop-entry.entry-index c.args.entries.now
      (omega (arith, c.loop-entry-test.false))) c.loop-entry.invariant,
  λ _. refl,
)
