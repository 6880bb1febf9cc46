use Rattle.std.proofs.Common.{rules, arith}
use Rattle.stamp_threads.proofs.RuleKept.{allows_exchange}
use Rattle.stamp_threads.proofs.lock_steps.exchange.Goals as goal

pub compare_exchange-requires : goal.compare_exchange-requires
compare_exchange-requires g c = (
  search rules,
  omega arith,
  rw (c.requires.step.0, c.requires.step.1)
      (allows_exchange _ _ _ _ _ _ _ c.requires.changes.0 c.requires.lock_call c.requires.seat.2
      c.requires.changes.1),
)
