use Rattle.std.proofs.Common.{refl, arith}
use Rattle.stamp_core.specs.Limits.{widest}
use Rattle.stamp_threads.proofs.record_word.opening_word.Goals as goal

pub returns : goal.returns
returns c =
    let is = (c.opening_in.ensures.represented (widest c.args.layout) refl).spelled in
    omega (arith, c.bits.ensures.bits)
