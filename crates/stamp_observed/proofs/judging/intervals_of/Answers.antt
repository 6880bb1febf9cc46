use Rattle.std.proofs.Common.{length, arith, subst}
use Rattle.std.specs.List.{All}
use Rattle.std.proofs.lemmas.List.{take_all}
use Rattle.std.proofs.lemmas.List.Elements.{All-more, All-take}
use Rattle.std.proofs.lemmas.Option.{slice_get_within}
use Rattle.stamp_explain.specs.Observed.{IsInterval}
use Rattle.stamp_observed.proofs.judging.intervals_of.Goals as goal

pub loop-i-preserved : goal.loop-i-preserved
loop-i-preserved c =
    All-more IsInterval c.args.entries.now c.loop-i.i c.index-entries-i.result c.loop-i-test.true c.loop-i.invariant
    (subst IsInterval c.index-entries-i.is (c.is_interval.ensures.0 c.if-not-is_interval.false))

pub returns : goal.returns
returns c =
    let es = c.args.entries.now in
    record {
      within = omega arith;
      before = All-take IsInterval (length es) es
          (subst (All IsInterval) (take_all c.loop-i.i es c.loop-i-test.false) c.loop-i.invariant);
      broken = λ e at. absurd (omega (arith, slice_get_within es (length es) e at));
    }
