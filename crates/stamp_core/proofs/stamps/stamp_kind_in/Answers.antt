use Rattle.std.proofs.Common.{◌≡◌, refl, arith}
use Rattle.std.proofs.lemmas.Bool.Decides.{nat_tests}
use Rattle.stamp_core.specs.Layout.{units_of}
use Rattle.stamp_core.specs.Decoded.{counts_in, counts_of}
use Rattle.stamp_core.proofs.OneHolder.{one_holder}
use Rattle.stamp_core.proofs.WordNumbers.{kind_of, stamp_is_state}
use Rattle.stamp_core.proofs.stamps.stamp_kind_in.Goals as goal

pub returns-then-has_writer : goal.returns-then-has_writer
returns-then-has_writer c =
    let k = kind_of c.args.layout c.args.stamp (c.in-Some.ensures.some.0 refl) in
    let w : (counts_in c.in-Some.word).writers ≡ 1 = grind (arith, nat_tests) in
    rw (c.write_count.ensures, c.in-Some.ensures.bits) (k.0 (rw c.in-Some.ensures.bits at w))

pub returns-then-reader_count-gt0 : goal.returns-then-reader_count-gt0
returns-then-reader_count-gt0 c =
    let k = kind_of c.args.layout c.args.stamp (c.in-Some.ensures.some.0 refl) in
    let one = one_holder (units_of c.args.layout) c.args.stamp in
    grind (arith, nat_tests)

pub returns-else-reader_count-gt0 : goal.returns-else-reader_count-gt0
returns-else-reader_count-gt0 c =
    let k = kind_of c.args.layout c.args.stamp (c.in-Some.ensures.some.0 refl) in
    let one = one_holder (units_of c.args.layout) c.args.stamp in
    let w : (counts_of (units_of c.args.layout) c.args.stamp).writers ≡ 0 = grind (arith, nat_tests) in
    let r : (counts_of (units_of c.args.layout) c.args.stamp).readers ≡ 0 = grind (arith, nat_tests) in
    rw (c.write_count-else-reader_count-gt0.ensures, c.in-Some.ensures.bits) (k.2 w r)

pub returns-in_default : goal.returns-in_default
returns-in_default c = λ k stamp. let some = c.in_default.ensures.some.1
    (stamp_is_state c.args.layout k c.args.stamp stamp) in cc
