use Rattle.std.proofs.Common.{rules, ◌≡◌, ◌<◌, List, max, subst, arith}
use Rattle.std.proofs.lemmas.List.{take_all}
use Rattle.stamp_explain.specs.declared.observed.Observation.{Observation}
use Rattle.stamp_explain.specs.Points.{IsLastTold, told_until}
use Rattle.stamp_explain.proofs.MakingEntries.{none_told, told_more}
use Rattle.stamp_explain.proofs.points.end_of.Goals as goal

pub loop-entry-init : goal.loop-entry-init
loop-entry-init c = (none_told c.args.entries.now, omega arith)

pub loop-entry-preserved : goal.loop-entry-preserved
loop-entry-preserved c =
    let is_max : c.max-end.result ≡ max c.loop-entry.end (told_until c.entry-item.result) = search rules in
    let low : c.max-end.result < 288230376151711744 = search rules in (
      told_more c.args.entries.now c.loop-entry.entry-index c.entry-item.result c.loop-entry.end c.max-end.result
          c.loop-entry-test.true c.entry-item.is c.loop-entry.invariant.0 is_max,
      low,
    )

pub returns-clause-told : goal.returns-clause-told
returns-clause-told c = subst (λ (es : List Observation). IsLastTold es c.loop-entry.end)
    (take_all c.loop-entry.entry-index c.args.entries.now (omega (arith, c.loop-entry-test.false)))
    c.loop-entry.invariant.0
