use Rattle.std.proofs.Common.{◌≡◌, ◌<◌, ◌++◌, ◌∷◌, ℕ, List, [], length, sym}
use Rattle.std.proofs.Common.{◌∙◌, ap, arith}
use Rattle.std.specs.Prelude.{vec_len}
use Rattle.stamp_core.specs.declared.entry.Entry.{Entry}
use Rattle.stamp_machines.specs.World.{stamps_of}
use Rattle.stamp_machines.specs.inner.Invariant.{Invariant}
use Rattle.stamp_machines.specs.StateFields.{world_at, stamps_at}
use Rattle.std.proofs.lemmas.Grind.{common_steps}
use Rattle.std.proofs.lemmas.List.{length-append}
use Rattle.stamp_machines.proofs.RunFacts.{run-kept, same-kept, world-more}
use Rattle.stamp_machines.proofs.running.Run.make_step.Goals as goal

pub step-requires : goal.step-requires
step-requires c =
    let here : c.len-position.result ≡ length c.self.inside.steps.items =
    grind (arith, common_steps) in
    let few : c.len-position.result < 1000000 = grind (arith, common_steps) in
    let same = c.reserve-2.ensures.same in
    let room = c.in_ok-reserve-2.ensures in
    let thread : c.args.thread < vec_len c.reserve-2.new.self.workers =
    grind (arith, common_steps) in
    let workers : vec_len c.reserve-2.new.self.workers ≡ length c.self.inside.script.now.threads =
    grind (arith, common_steps) in
    let kept : Invariant c.self.inside.script.now
    (world_at [] c.reserve-2.new.self c.len-position.result) =
    rw here (same-kept _ _ _ _ same (run-kept c.self.inside c.self.invariant)) in
    let stamps : (t : ℕ) → stamps_at c.reserve-2.new.self.workers.items t
    ≡ stamps_of t c.reserve-2.new.self.entries.items =
    λ t. same.stamps t ∙ c.self.invariant.stamps t
    ∙ ap (λ (es : List Entry). stamps_of t es) (sym same.entries) in (
      c.self.invariant.sound,
      (kept, (few, (thread, (workers, (stamps, (room.room, room.entries)))))),
    )

pub invariant_of-self-2 : goal.invariant_of-self-2
invariant_of-self-2 c =
    let more : c.push.new.self.items ≡ c.self.inside.steps.items ++ c.args.thread ∷ [] =
    grind (arith, common_steps) in
    let here : c.len-position.result ≡ length c.self.inside.steps.items =
    grind (arith, common_steps) in
    record {
      world = world-more c.self.inside.script.now c.self.inside.state c.reserve-2.new.self
          c.step.new.self c.self.inside.steps.items c.push.new.self.items c.args.thread
          c.self.invariant.world c.reserve-2.ensures.same (rw here at c.step.ensures.step.world) more;
      sound = c.self.invariant.sound;
      workers = grind (arith, common_steps);
      stamps = c.step.ensures.step.stamps;
      few = rw (more, length-append) (grind (arith, common_steps));
    }
