use Rattle.std.proofs.Common.{◌∙◌, ap, from_bits}
use Rattle.std.specs.Bool.{passes}
use lib.Ieee.{binary64}
use lib.Ieee.Bits.{of_bits-to_bits}
use Rattle.stamped_lock.proofs.in_words.bits_of.Goals as goal

pub returns-clause-back : goal.returns-clause-back
returns-clause-back c =
    ap (from_bits binary64) c.f64_to_bits_with_nan.ensures ∙
    of_bits-to_bits binary64 c.args.x (passes _ c.well_formed.0.1)
