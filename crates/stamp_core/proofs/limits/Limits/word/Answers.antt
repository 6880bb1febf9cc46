use Rattle.std.proofs.Common.{subst, sym}
use Rattle.stamp_core.specs.Layout.{units_of}
use Rattle.stamp_core.specs.Decoded.{IsNumber}
use Rattle.stamp_core.specs.declared.layout.Layout.{Layout}
use Rattle.stamp_core.proofs.Deciding.{admitted_state}
use Rattle.stamp_core.proofs.limits.Limits.word.Goals as goal

pub of_state-requires : goal.of_state-requires
of_state-requires c = subst (λ (l : Layout). IsNumber (units_of l) c.args.bits) (sym c.layout.ensures.layout)
    (admitted_state c.args.self.now c.args.bits c.known.ensures c.requires)
