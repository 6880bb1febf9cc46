use Rattle.std.proofs.Common.{◌≡◌, ◌∙◌, ap, arith}
use Rattle.stamp_core.specs.Word.{LockWord}
use Rattle.stamp_machines.specs.World.{execution_of}
use Rattle.stamp_machines.specs.Interference.{lock_word}
use Rattle.stamp_machines.proofs.TallySteps.{tallied-more, meter_few}
use Rattle.stamp_machines.proofs.running.Run.step_counted.Goals as goal

pub count-requires-clause-steps : goal.count-requires-clause-steps
count-requires-clause-steps c =
    let few = c.known.ensures.few in
    let small = meter_few c.args.self.now.script c.args.self.now.steps c.args.tally.now.changes
    c.args.thread _ _ (c.requires.tallied.meters c.args.thread) in
    omega (arith, few, small)

pub count-requires-clause-changes : goal.count-requires-clause-changes
count-requires-clause-changes c = let few = c.known.ensures.few in let small =
    c.requires.tallied.few in omega (arith, few, small)

pub returns-in_ok-count-in-Ok-clause-tallied : goal.returns-in_ok-count-in-Ok-clause-tallied
returns-in_ok-count-in-Ok-clause-tallied c =
    let more = tallied-more c.args.self.now.script c.args.self.now.steps c.args.thread _
    c.in-Ok.stepped c.known.ensures.sound c.known.ensures.few c.requires.thread
    c.requires.tallied c.in-Ok.ensures.stepped in
    let before : c.bits-before.result
    ≡ lock_word (execution_of c.args.self.now.script c.args.self.now.steps) =
    c.bits-before.ensures.bits ∙ ap (λ (w : LockWord). w.bits) c.word.ensures.word in
    let now : c.bits.result ≡ lock_word (execution_of c.step.new.self.script c.step.new.self.steps) =
    c.bits.ensures.bits ∙ ap (λ (w : LockWord). w.bits) c.word-in-Ok.ensures.word in
    rw (c.in_ok-count-in-Ok.ensures, now, before, c.in-Ok.ensures.ok) more
