use Rattle.stamp_core.proofs.WordNumbers.{state_is_admitted, admitted_is_state}
use Rattle.stamp_core.proofs.word.Word.from_bits_in.Goals as goal

pub returns-clause-some : goal.returns-clause-some
returns-clause-some c = (
  λ some. state_is_admitted c.args.layout c.args.bits (c.decoded.ensures.some.0 some),
  λ admitted. c.decoded.ensures.some.1 (admitted_is_state c.args.layout c.args.bits admitted),
)
