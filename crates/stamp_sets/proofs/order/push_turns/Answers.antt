use Rattle.std.proofs.Common.{sym, ◌∙◌, ap, arith}
use Rattle.stamp_sets.proofs.ReadingBack.{turns_end, turns_first, turns_skip, turns_take}
use Rattle.stamp_sets.proofs.order.push_turns.Goals as goal
use Rattle.stamp_sets.proofs.order.push_turns.Goals.{then-is_reader+in_ok-push, else-is_reader}

pub loop-step-init : goal.loop-step-init
loop-step-init c = (
  omega arith,
  turns_first c.args.link.now c.args.point c.args.list.now.items,
)

pub loop-step-preserved : goal.loop-step-preserved
loop-step-preserved c = (
  omega (arith, c.loop-step-test.true),
  elim c.if-is_reader.branch [
    | then-is_reader+in_ok-push w ↦ turns_take c.args.link.now c.args.point c.loop-step.step c.loop-step.list.items
        c.args.list.now.items c.if-is_reader.list.items c.loop-step-test.true
        (sym c.is_reader.ensures ∙ w.if-is_reader.true) c.loop-step.invariant.1
        (ap (λ xs. xs.items) w.list-is ∙ w.in_ok-push.ensures.items)
    | else-is_reader w ↦ ap (λ xs. xs.items) w.list-is ∙ turns_skip c.args.link.now c.args.point c.loop-step.step
        c.loop-step.list.items c.args.list.now.items c.loop-step-test.true
        (sym c.is_reader.ensures ∙ w.if-is_reader.false) c.loop-step.invariant.1
  ],
)

pub returns : goal.returns
returns c = turns_end c.args.link.now c.args.point c.loop-step.step c.loop-step.list.items c.args.list.now.items
    c.push-2.new.self.items c.loop-step.invariant.0 c.loop-step-test.false c.loop-step.invariant.1
    c.in_ok-push-2.ensures.items
