use Rattle.std.proofs.Common.{◌≡◌, refl, arith}
use Rattle.std.specs.Prelude.{slice_index}
use Rattle.std.proofs.lemmas.Grind.{common_steps}
use Rattle.stamp_machines.proofs.RunFacts.{run-represented, run-admitted, first-word, run-words}
use Rattle.stamp_machines.proofs.running.Run.word.Goals as goal

pub index-requires : goal.index-requires
index-requires c = let h = run-words c.self.inside c.self.invariant in
    grind (arith, common_steps, h)

pub word-requires : goal.word-requires
word-requires c =
    let e : c.index.result.now ≡ slice_index c.self.inside.state.words.items 0 =
    first-word c.self.inside.state.words.items c.index.result.now
    (run-words c.self.inside c.self.invariant) c.index.ensures in
    rw (c.limits.ensures.limits, e) (run-admitted c.self.inside c.self.invariant)

pub returns-clause-word : goal.returns-clause-word
returns-clause-word c =
    let e : c.index.result.now ≡ slice_index c.self.inside.state.words.items 0 =
    first-word c.self.inside.state.words.items c.index.result.now
    (run-words c.self.inside c.self.invariant) c.index.ensures in
    rw (← c.self.view_is, ← c.self.invariant.world, c.word.ensures, c.limits.ensures.limits, e) refl

pub returns-clause-represented : goal.returns-clause-represented
returns-clause-represented c =
    let e : c.index.result.now ≡ slice_index c.self.inside.state.words.items 0 =
    first-word c.self.inside.state.words.items c.index.result.now
    (run-words c.self.inside c.self.invariant) c.index.ensures in
    rw (← c.self.view_is, c.word.ensures, c.limits.ensures.limits, e)
    (run-represented c.self.inside c.self.invariant)
