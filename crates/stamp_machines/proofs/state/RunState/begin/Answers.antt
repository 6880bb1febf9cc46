use Rattle.std.proofs.Common.{◌≡◌, List, Option, Some, None, false, sym, ◌∙◌, ap, arith}
use Rattle.std.specs.Prelude.{map, slice_index_or, slice_set, is_some, length}
use Rattle.std.proofs.lemmas.Grind.{common_steps}
use Rattle.std.specs.Vec.{with_items}
use Rattle.std.proofs.lemmas.List.{with_items_is}
use Rattle.stamp_machines.specs.declared.state.Begun.{Begun}
use Rattle.stamp_machines.specs.declared.state.Worker.{Worker}
use Rattle.stamp_machines.specs.World.{World, current}
use Rattle.stamp_machines.specs.inner.World.{begun_with}
use Rattle.stamp_machines.specs.StateFields.{stamps_at, begun_in, world_at}
use Rattle.stamp_machines.proofs.StateSteps.{begun-next}
use Rattle.stamp_machines.proofs.state.RunState.begin.Goals as goal

pub returns-clause-world : goal.returns-clause-world
returns-clause-world g c =
    let first : c.deref.result.now ≡ c.args.self.now.workers.items = grind (arith, common_steps) in
    let now : c.deref-2.result.now ≡ c.args.self.now.workers.items = grind (arith, common_steps) in
    let before : c.deref_mut.result.now ≡ c.args.self.now.workers.items =
    grind (arith, common_steps) in
    let none : is_some
    (slice_index_or (map begun_in c.args.self.now.workers.items) c.args.thread None) ≡ false =
    rw (← first) (sym c.has_call_under_way.ensures ∙ c.if-has_call_under_way.false) in
    let is : current c.args.script.now (world_at g.gone c.args.self.now c.args.position)
    c.args.thread ≡ Some c.in-Some.begun =
    begun-next c.args.script.now (world_at g.gone c.args.self.now c.args.position)
    (stamps_at c.deref-2.result.now) c.args.thread c.in-Some.begun none
    (λ t. ap (λ (ws : List Worker). stamps_at ws t) now ∙ c.requires.1.1 t) c.in-Some.ensures in
    let set : map begun_in c.set_begun.new.workers
    ≡ slice_set (map begun_in c.args.self.now.workers.items) c.args.thread
    (Some c.in-Some.begun) = rw before at c.set_begun.ensures.begun in
    let many : length c.set_begun.new.workers ≡ c.args.self.now.workers.len =
    grind (arith, common_steps) in
    let items : (with_items c.args.self.now.workers c.set_begun.new.workers).items
    ≡ c.set_begun.new.workers =
    with_items_is c.args.self.now.workers c.set_begun.new.workers many in
    let world : World = world_at g.gone c.args.self.now c.args.position in
    ap (λ (bs : List (Option Begun)). record world { begun = bs })
    (ap (λ (ws : List Worker). map begun_in ws) items ∙ set)
    ∙ sym (ap (λ (o : Option Begun). begun_with world c.args.thread o) is)
