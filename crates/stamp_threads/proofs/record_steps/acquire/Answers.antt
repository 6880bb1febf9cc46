use Rattle.std.proofs.Common.{rules, arith}
use Rattle.stamp_threads.proofs.PutSteps.{allows_acquire}
use Rattle.stamp_threads.proofs.record_steps.acquire.Goals as goal

pub compare_exchange-requires : goal.compare_exchange-requires
compare_exchange-requires g c = (
  search rules,
  omega arith,
  rw (c.requires.step.0, c.requires.step.1)
      (allows_acquire _ _ _ _ _ c.requires.free.0 _ _ _ c.requires.seat.2 c.requires.idle
      c.requires.free.1 c.requires.free.2 c.requires.free.3 c.requires.long
      c.requires.rule),
)
