use Rattle.std.proofs.Common.{rules, arith}
use Rattle.stamp_threads.proofs.PutSteps.{allows_release_over}
use Rattle.stamp_threads.proofs.record_steps.release_over.Goals as goal

pub compare_exchange-requires : goal.compare_exchange-requires
compare_exchange-requires g c = (
  search rules,
  omega arith,
  rw (c.requires.step.0, c.requires.step.1)
      (allows_release_over _ _ _ _ _ _ c.requires.writing.0 _ _ _ c.requires.seat.2 c.requires.writing.1
      c.requires.writing.2 c.requires.writing.3 c.requires.writing.4),
)
