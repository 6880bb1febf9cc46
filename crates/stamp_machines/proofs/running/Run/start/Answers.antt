use Rattle.stamp_machines.specs.declared.shape.Shape.{Shape}
use Rattle.std.proofs.Common.{ℕ, sym, ◌∙◌, ap, arith}
use Rattle.std.proofs.lemmas.Grind.{common_steps}
use Rattle.stamp_machines.specs.World.{World, execution_of, opening_of, stamps_of}
use Rattle.stamp_machines.proofs.running.Run.start.Goals as goal

pub invariant_of-result : goal.invariant_of-result
unfolding execution_of
invariant_of-result c =
    record {
      world = rw c.new-2.ensures.items (c.in_ok-state.ensures.world
          ∙ ap (λ (s : Shape). opening_of s.limits s.width c.thread_count.result)
          c.shape.ensures.shape
          ∙ ap (λ (n : ℕ). opening_of c.args.script.now.limits c.args.script.now.width n)
          c.thread_count.ensures.count);
      sound = c.shape.ensures.sound;
      workers = grind (arith, common_steps);
      stamps = λ t. c.in_ok-state.ensures.stamps t
          ∙ ap (λ (w : World). stamps_of t w.entries) (sym c.in_ok-state.ensures.world);
      few = grind (arith, common_steps);
    }
