use Rattle.std.proofs.Common.{◌∙◌, arith}
use Rattle.stamped_lock.proofs.Tries.{seen_further}
use Rattle.stamped_lock.proofs.wide_handle.WideHandle.update_in.Goals as goal

pub update_lent-requires : goal.update_lent-requires
update_lent-requires g c = (
  omega arith,
  (
    (c.loop.invariant.0 ∙ c.requires.long.0, c.loop.invariant.1 ∙ c.requires.long.1),
    (
      λ words seen long rule s.
          c.requires.callable words seen long rule (seen_further _ _ _ _ _ c.loop.invariant.2 s),
      c.requires.rule,
    ),
  ),
)
