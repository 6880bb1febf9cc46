use Rattle.std.proofs.Common.{refl}
use Rattle.stamp_core.proofs.WordNumbers.{within_is_admitted}
use Rattle.stamp_core.proofs.limits.Limits.word_from_bits.Goals as goal

pub word-requires : goal.word-requires
word-requires c = (within_is_admitted c.args.self.now c.args.bits c.known.ensures).0 (c.if-covers_bits.ensures.0 refl)

pub returns-then-covers_bits-clause-some : goal.returns-then-covers_bits-clause-some
returns-then-covers_bits-clause-some c =
    let admitted = (within_is_admitted c.args.self.now c.args.bits c.known.ensures).0 (c.if-covers_bits.ensures.0 refl)
    in (λ some. admitted, λ a. refl)

pub returns-else-covers_bits-clause-some : goal.returns-else-covers_bits-clause-some
returns-else-covers_bits-clause-some c = (
  λ none. cc,
  λ a. c.if-covers_bits.ensures.1 ((within_is_admitted c.args.self.now c.args.bits c.known.ensures).1 a),
)
