use Rattle.std.proofs.Common.{◌≡◌, ◌∙◌, ap}
use Rattle.stamp_machines.specs.RunView.{RunView}
use Rattle.stamp_machines.specs.World.{World, execution_of, finished_calls, step}
use Rattle.stamp_machines.proofs.StateSteps.{outcome-answers}
use Rattle.stamp_machines.proofs.StepsKeep.{execution_of-more}
use Rattle.stamp_machines.proofs.running.Run.step.Goals as goal

pub returns-clause-stepped : goal.returns-clause-stepped
returns-clause-stepped c =
    let world : World = execution_of c.args.self.now.script c.args.self.now.steps in
    let kept : c.self.inside.state.entries.items
    ≡ finished_calls c.make_step.new.self.script c.make_step.new.self.steps =
    rw (← c.self.view_is) (ap (λ (w : World). w.entries) c.self.invariant.world) in
    let entries : c.self.inside.state.entries.items
    ≡ (step c.args.self.now.script world c.args.thread).entries =
    kept ∙ ap (λ (r : RunView). finished_calls r.script r.steps) c.in_ok-kind.ensures.ok
    ∙ ap (λ (w : World). w.entries)
    (execution_of-more c.args.self.now.script c.args.self.now.steps c.args.thread) in
    rw c.outcome.ensures
    (outcome-answers c.args.self.now.script world c.args.thread c.in_ok-kind.kind _ entries
    c.in_ok-kind.ensures.kind)
