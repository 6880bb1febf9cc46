use Rattle.std.proofs.Common.{◌≡◌, ◌+◌, List, get_or, sym, subst, arith}
use Rattle.std.specs.Prelude.{take}
use Rattle.std.specs.List.{Contains}
use Rattle.std.proofs.lemmas.Bool.{false≢true}
use Rattle.std.proofs.lemmas.List.{take_all, take_more}
use Rattle.std.proofs.lemmas.List.Elements.{All-get_or, Contains-get_or}
use Rattle.stamp_sets.specs.declared.position.Position.{Position}
use Rattle.stamp_sets.specs.Judged.{judged}
use Rattle.stamp_sets.specs.inner.State.{IsState}
use Rattle.stamp_sets.specs.inner.Layer.{LooksAt}
use Rattle.stamp_sets.specs.inner.Trail.{AreNoted}
use Rattle.stamp_sets.proofs.Layering.{looks_none, looks_more}
use Rattle.stamp_sets.proofs.Trailing.{noted_among, noted_none, noted_then}
use Rattle.stamp_sets.proofs.layers.look_through.Goals as goal
use Rattle.stamp_sets.proofs.layers.look_through.Goals.{In_ok-look}

pub loop-position-init : goal.loop-position-init
loop-position-init c = (
  looks_none (judged c.args.object.now) c.args.table.now c.args.lane c.args.done.now.items c.args.next.now.items,
  noted_none (judged c.args.object.now) c.args.table.now (Contains c.args.layer.now) c.args.trail.now
      c.args.next.now.items,
)

pub look-requires-clause-state : goal.look-requires-clause-state
look-requires-clause-state c = All-get_or
    (λ (p : Position). IsState (judged c.args.object.now) p.state)
    c.args.layer.now c.loop-position.position-index (record { state = 0; in_effect = 0; free = 0 })
    c.loop-position-test.true
    c.requires.states

-- one position more was looked at
looked : (c : In_ok-look) → LooksAt (judged c.args.object.now) c.args.table.now c.args.lane
    (take (c.loop-position.position-index + 1) c.args.layer.now) c.args.done.now.items c.look.new.done.items
    c.args.next.now.items c.look.new.next.items
looked c = subst (λ (xs : List Position). LooksAt (judged c.args.object.now) c.args.table.now c.args.lane xs
    c.args.done.now.items
    c.look.new.done.items c.args.next.now.items c.look.new.next.items)
    (sym (take_more c.args.layer.now c.loop-position.position-index (record { state = 0; in_effect = 0; free = 0 })
    c.loop-position-test.true))
    (looks_more (judged c.args.object.now) c.args.table.now c.args.lane
    (take c.loop-position.position-index c.args.layer.now)
    (get_or c.args.layer.now c.loop-position.position-index (record { state = 0; in_effect = 0; free = 0 }))
    c.args.done.now.items c.loop-position.done.items c.look.new.done.items c.args.next.now.items
    c.loop-position.next.items c.look.new.next.items c.loop-position.invariant.0 c.in_ok-look.ensures.looks)

noted : (c : In_ok-look) → AreNoted (judged c.args.object.now) c.args.table.now (Contains c.args.layer.now)
    c.args.trail.now c.look.new.trail c.args.next.now.items c.look.new.next.items
noted c = noted_then (judged c.args.object.now) c.args.table.now (Contains c.args.layer.now) c.args.trail.now
    c.loop-position.trail c.look.new.trail c.args.next.now.items c.loop-position.next.items c.look.new.next.items
    c.loop-position.invariant.1 (noted_among (judged c.args.object.now) c.args.table.now
    (λ (p : Position). p ≡ get_or c.args.layer.now c.loop-position.position-index
    (record { state = 0; in_effect = 0; free = 0 })) (Contains c.args.layer.now) c.loop-position.trail c.look.new.trail
    c.loop-position.next.items c.look.new.next.items
    (λ p same. subst (λ (q : Position). Contains c.args.layer.now q) (sym same)
    (Contains-get_or c.args.layer.now c.loop-position.position-index (record { state = 0; in_effect = 0; free = 0 })
    c.loop-position-test.true)) c.in_ok-look.ensures.noted)

pub loop-position-preserved : goal.loop-position-preserved
loop-position-preserved c = (
  looked (goal.at.loop-position-preserved c).In_ok-look,
  noted (goal.at.loop-position-preserved c).In_ok-look,
)

pub returns-then-len-most-clause-looks : goal.returns-then-len-most-clause-looks
returns-then-len-most-clause-looks c = record {
  seen = c.loop-position.position-index + 1;
  looks = looked (goal.at.returns-then-len-most-clause-looks c).In_ok-look;
  whole = λ is. absurd (false≢true is);
  many = λ _. omega (arith, c.len.ensures, c.look.new.next.ok.0, c.if-len-most.true);
}

pub returns-clause-looks : goal.returns-clause-looks
returns-clause-looks c = record {
  seen = c.loop-position.position-index;
  looks = c.loop-position.invariant.0;
  whole = λ _. take_all c.loop-position.position-index c.args.layer.now c.loop-position-test.false;
  many = λ is. absurd (false≢true (sym is));
}

pub returns-then-len-most-clause-noted : goal.returns-then-len-most-clause-noted
returns-then-len-most-clause-noted c = noted (goal.at.returns-then-len-most-clause-noted c).In_ok-look

pub returns-clause-noted : goal.returns-clause-noted
returns-clause-noted c = c.loop-position.invariant.1
