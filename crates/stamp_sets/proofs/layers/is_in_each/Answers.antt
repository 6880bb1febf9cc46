use Rattle.std.proofs.Common.{◌≡◌, sym}
use Rattle.std.specs.Int.{bit_at}
use Rattle.std.proofs.lemmas.List.{take_all}
use Rattle.std.proofs.lemmas.List.Elements.{All-more, All-same}
use Rattle.stamp_sets.specs.declared.position.Position.{Position}
use Rattle.stamp_sets.proofs.layers.is_in_each.Goals as goal

pub loop-position-preserved : goal.loop-position-preserved
loop-position-preserved c = All-more (λ (p : Position). bit_at p.in_effect c.args.lane ≡ 1) c.args.positions.now
    c.loop-position.position-index (record { state = 0; in_effect = 0; free = 0 }) c.loop-position-test.true
    c.loop-position.invariant (c.has_lane.ensures.0 c.if-not-has_lane.false)

pub returns : goal.returns
returns c _ = All-same (λ (p : Position). bit_at p.in_effect c.args.lane ≡ 1) c.args.positions.now _
    (sym (take_all c.loop-position.position-index c.args.positions.now c.loop-position-test.false))
    c.loop-position.invariant
