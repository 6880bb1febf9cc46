use Rattle.std.proofs.Common.{refl}
use Rattle.stamp_core.proofs.WordNumbers.{admitted_number}
use Rattle.stamp_tests.proofs.core_tests.made_again.Goals as goal

pub word-requires : goal.word-requires
word-requires c = admitted_number c.args.limits c.args.word c.bits.result
    (c.if-admits.ensures.0 refl) c.bits.ensures.bits
