use Rattle.std.proofs.Common.{rules}
use Rattle.stamped_value.proofs.Exchanging.{allows_exchange}
use Rattle.stamped_value.proofs.steps.exchange.Goals as goal

pub compare_exchange-requires : goal.compare_exchange-requires
compare_exchange-requires g c = (
  search rules,
  rw (c.requires.step.0, c.requires.step.1)
      (allows_exchange _ _ _ _ _ _ c.requires.changes.0 c.requires.in_range c.requires.lock_call c.requires.may
      c.requires.hold c.requires.changes.1),
)
