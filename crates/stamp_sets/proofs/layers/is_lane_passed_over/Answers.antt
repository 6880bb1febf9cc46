use Rattle.std.proofs.Common.{sym, ◌∙◌, subst, arith}
use Rattle.std.proofs.lemmas.Option.{none-some, same_Some}
use Rattle.stamp_sets.specs.declared.open_call.OpenCall.{OpenCall}
use Rattle.stamp_sets.specs.Judged.{judged}
use Rattle.stamp_sets.specs.inner.Effect.{IsPassedOver}
use Rattle.stamp_sets.proofs.layers.is_lane_passed_over.Goals as goal

pub returns-then-has_lane : goal.returns-then-has_lane
returns-then-has_lane c is begun opens waits =
    let taken = c.has_lane.ensures.0 c.if-has_lane.true in absurd (omega (arith, taken, waits))

pub returns-in-None : goal.returns-in-None
returns-in-None c is begun opens waits = absurd (none-some begun (sym c.in-None.is ∙ c.open_in.ensures ∙ opens))

pub returns-in-Some : goal.returns-in-Some
returns-in-Some c is begun opens waits = subst
    (λ (b : OpenCall). IsPassedOver (judged c.args.object.now) c.args.awaited c.args.lane b c.args.state)
    (same_Some c.in-Some.begun begun (sym c.in-Some.is ∙ c.open_in.ensures ∙ opens)) (c.is_passed_over.ensures is)
