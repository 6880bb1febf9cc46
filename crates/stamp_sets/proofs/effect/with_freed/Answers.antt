use Rattle.std.proofs.Common.{sym, ◌∙◌}
use Rattle.stamp_sets.specs.Judged.{judged}
use Rattle.stamp_sets.proofs.CountingLanes.{bit_free}
use Rattle.stamp_sets.proofs.Freeing.{frees_not, frees_one, not_awaited, not_kind, not_open, not_waiting}
use Rattle.stamp_sets.proofs.effect.with_freed.Goals as goal

pub returns-then-lane-awaited : goal.returns-then-lane-awaited
returns-then-lane-awaited c = frees_not (judged c.args.object.now) c.args.table.now c.args.awaited c.args.in_effect
    c.args.lane c.args.free (not_awaited (judged c.args.object.now) c.args.table.now c.args.awaited c.args.in_effect
    c.args.lane c.if-lane-awaited.true)

pub returns-then-has_lane : goal.returns-then-has_lane
returns-then-has_lane c = frees_not (judged c.args.object.now) c.args.table.now c.args.awaited c.args.in_effect
    c.args.lane c.args.free (not_waiting (judged c.args.object.now) c.args.table.now c.args.awaited c.args.in_effect
    c.args.lane (c.has_lane.ensures.0 c.if-has_lane.true))

pub returns-in_default : goal.returns-in_default
returns-in_default c = frees_not (judged c.args.object.now) c.args.table.now c.args.awaited c.args.in_effect
    c.args.lane c.args.free (not_open (judged c.args.object.now) c.args.table.now c.args.awaited c.args.in_effect
    c.args.lane (sym c.open_in.ensures ∙ c.in_default.is))

pub returns-then-not-may_be_free : goal.returns-then-not-may_be_free
returns-then-not-may_be_free c = frees_not (judged c.args.object.now) c.args.table.now c.args.awaited c.args.in_effect
    c.args.lane c.args.free (not_kind (judged c.args.object.now) c.args.table.now c.args.awaited c.args.in_effect
    c.args.lane c.in-Some.begun (sym c.open_in.ensures ∙ c.in-Some.is)
    (sym c.may_be_free.ensures ∙ c.if-not-may_be_free.true))

pub returns : goal.returns
returns c = frees_one (judged c.args.object.now) c.args.table.now c.args.awaited c.args.in_effect c.args.lane
    c.args.free c.with_lane.result c.in-Some.begun (sym c.open_in.ensures ∙ c.in-Some.is)
    (sym c.may_be_free.ensures ∙ c.if-not-may_be_free.false)
    (bit_free c.args.in_effect c.args.lane c.has_lane.result c.has_lane.ensures c.if-has_lane.false)
    c.if-lane-awaited.false c.with_lane.ensures
