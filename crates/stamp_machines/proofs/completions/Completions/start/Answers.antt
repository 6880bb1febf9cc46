use Rattle.std.proofs.Common.{◌≡◌, ◌∙◌, ℕ, [], ap}
use Rattle.stamp_machines.specs.Script.{Scripted}
use Rattle.stamp_machines.specs.World.{opening, opening_of}
use Rattle.stamp_machines.specs.StateFields.{world_at}
use Rattle.stamp_machines.specs.declared.shape.Shape.{Shape}
use Rattle.stamp_machines.proofs.FinishedCalls.{opening-after, opening-completing}
use Rattle.stamp_machines.proofs.completions.Completions.start.Goals as goal

pub invariant_of-result : goal.invariant_of-result
invariant_of-result c =
    let script : Scripted = c.args.script.now in
    let world : world_at [] c.in_ok-state.state 0 ≡ opening script =
    c.in_ok-state.ensures.world
    ∙ ap (λ (s : Shape). opening_of s.limits s.width c.thread_count.result) c.shape.ensures.shape
    ∙ ap (λ (n : ℕ). opening_of script.limits script.width n) c.thread_count.ensures.count in
    opening-after script c.in_ok-state.state world
    (c.in_ok-state.ensures.workers ∙ c.thread_count.ensures.count) c.in_ok-state.ensures.stamps

pub returns-clause-ok : goal.returns-clause-ok
returns-clause-ok c =
    let script : Scripted = c.args.script.now in
    let world : world_at [] c.in_ok-state.state 0 ≡ opening script =
    c.in_ok-state.ensures.world
    ∙ ap (λ (s : Shape). opening_of s.limits s.width c.thread_count.result) c.shape.ensures.shape
    ∙ ap (λ (n : ℕ). opening_of script.limits script.width n) c.thread_count.ensures.count in
    opening-completing script c.in_ok-state.state world
