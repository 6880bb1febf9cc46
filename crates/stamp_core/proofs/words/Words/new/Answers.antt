use Rattle.std.proofs.Common.{◌≡◌, ◌≤◌, ◌-◌, length, drop, replicate, subst, arith, refl, ℕ}
use Rattle.std.proofs.lemmas.Grind.{common_steps}
use Rattle.stamp_core.proofs.Filling.{fill_take, fill_drop}
use Rattle.stamp_core.proofs.words.Words.new.Goals as goal

pub loop-i-preserved : goal.loop-i-preserved
loop-i-preserved c = record {
  size = grind (arith, common_steps);
  filled = fill_take c.loop-i.i c.loop-i.held c.args.words.now _ 0 (omega arith) c.loop-i-test.true
      c.loop-i.invariant.filled refl;
  rest = fill_drop c.loop-i.i c.loop-i.held _ (omega arith) (omega arith) c.loop-i.invariant.rest;
}

pub invariant_of-result : goal.invariant_of-result
invariant_of-result c =
    let e : c.loop-i.i ≡ length c.args.words.now = omega arith in
    let some : 1 ≤ length c.args.words.now = grind (arith, common_steps) in (
      some,
      omega arith,
      c.loop-i.invariant.size,
      subst (λ (n : ℕ). drop n c.loop-i.held ≡ replicate (16 - n) 0) e c.loop-i.invariant.rest,
    )
