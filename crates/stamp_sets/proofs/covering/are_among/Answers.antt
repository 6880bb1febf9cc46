use Rattle.std.proofs.Common.{ℕ, ◌≡◌, ap, arith, bit_or, eqb-true}
use Rattle.std.specs.Int.{bit_at}
use Rattle.std.proofs.lemmas.Nat.Bits.{bit_at-lt, bit_at_or}
use Rattle.stamp_sets.proofs.covering.are_among.Goals as goal

pub returns : goal.returns
returns c is lane among =
    let same : bit_or c.args.lanes c.args.others ≡ c.args.others = eqb-true _ _ is in
    let most = bit_at_or c.args.lanes c.args.others lane in
    let low = bit_at-lt c.args.others lane in
    let here : bit_at (bit_or c.args.lanes c.args.others) lane ≡ bit_at c.args.others lane =
    ap (λ (n : ℕ). bit_at n lane) same in
    omega (arith, most, here, among, low)
