use Rattle.std.proofs.Common.{◌≡◌, ◌+◌, [], List, get_or, sym, subst}
use Rattle.std.specs.Prelude.{take}
use Rattle.std.specs.List.{Contains}
use Rattle.std.proofs.lemmas.List.Elements.{Contains-get_or}
use Rattle.std.proofs.lemmas.List.{take_all, take_more}
use Rattle.stamp_sets.specs.declared.position.Position.{Position}
use Rattle.stamp_sets.specs.Judged.{judged}
use Rattle.stamp_sets.specs.inner.Start.{StartsWith}
use Rattle.stamp_sets.proofs.Starting.{starts_more, starts_none}
use Rattle.stamp_sets.proofs.Trailing.{noted_among, noted_none, noted_then}
use Rattle.stamp_sets.proofs.start.take_up_each.Goals as goal
use Rattle.stamp_sets.proofs.start.take_up_each.Goals.{In_ok-take_up}

pub loop-position-init : goal.loop-position-init
loop-position-init c = (
  starts_none (judged c.args.object.now) c.args.table.now c.args.lane c.args.first.now.items,
  noted_none (judged c.args.object.now) c.args.table.now (Contains c.args.positions.now) c.args.trail.now
      c.args.first.now.items,
)

-- one position more was taken up
started : (c : In_ok-take_up) → c.args.first.now.items ≡ [] → StartsWith (judged c.args.object.now) c.args.table.now
    c.args.lane (take (c.loop-position.position-index + 1) c.args.positions.now) c.take_up.new.first.items
started c none = subst (λ (xs : List Position). StartsWith (judged c.args.object.now) c.args.table.now
    c.args.lane xs c.take_up.new.first.items)
    (sym (take_more c.args.positions.now c.loop-position.position-index
    (record { state = 0; in_effect = 0; free = 0 }) c.loop-position-test.true))
    (starts_more (judged c.args.object.now) c.args.table.now c.args.lane
    (take c.loop-position.position-index c.args.positions.now)
    (get_or c.args.positions.now c.loop-position.position-index (record { state = 0; in_effect = 0; free = 0 }))
    c.loop-position.first.items c.take_up.new.first.items (c.loop-position.invariant.0 none)
    c.in_ok-take_up.ensures.takes)

pub loop-position-preserved : goal.loop-position-preserved
loop-position-preserved c = (
  started (goal.at.loop-position-preserved c).In_ok-take_up,
  noted_then (judged c.args.object.now) c.args.table.now (Contains c.args.positions.now) c.args.trail.now
      c.loop-position.trail c.take_up.new.trail c.args.first.now.items c.loop-position.first.items
      c.take_up.new.first.items c.loop-position.invariant.1 (noted_among (judged c.args.object.now) c.args.table.now
      (λ (p : Position). p ≡ get_or c.args.positions.now c.loop-position.position-index
      (record { state = 0; in_effect = 0; free = 0 })) (Contains c.args.positions.now) c.loop-position.trail
      c.take_up.new.trail c.loop-position.first.items c.take_up.new.first.items
      (λ p same. subst (λ (q : Position). Contains c.args.positions.now q) (sym same)
      (Contains-get_or c.args.positions.now c.loop-position.position-index
      (record { state = 0; in_effect = 0; free = 0 }) c.loop-position-test.true)) c.in_ok-take_up.ensures.noted),
)

pub returns-clause-starts : goal.returns-clause-starts
returns-clause-starts c none = subst (λ (xs : List Position). StartsWith (judged c.args.object.now) c.args.table.now
    c.args.lane xs
    c.loop-position.first.items)
    (take_all c.loop-position.position-index c.args.positions.now c.loop-position-test.false)
    (c.loop-position.invariant.0 none)

pub returns-clause-noted : goal.returns-clause-noted
returns-clause-noted c = c.loop-position.invariant.1
