use Rattle.std.proofs.Common.{◌∙◌, sym, arith}
use Rattle.std.proofs.lemmas.Bool.{false≢true}
use Rattle.stamp_observed.proofs.Seen.{between_ends, first_between}
use Rattle.stamp_observed.proofs.judging.first_overlap.Goals as goal

pub loop-too_many-init : goal.loop-too_many-init
loop-too_many-init c =
    between_ends c.args.entries.now (λ pairs. false≢true (sym c.if-branch.false ∙
    c.in_ok-none_overlap.ensures.1 pairs))

pub returns : goal.returns
returns c = first_between c.args.entries.now c.loop-too_many.without c.loop-too_many.too_many c.loop-too_many.invariant
    (omega arith)
