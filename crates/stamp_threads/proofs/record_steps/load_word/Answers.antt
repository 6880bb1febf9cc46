use Rattle.std.proofs.Common.{rules, arith}
use Rattle.stamp_threads.proofs.GetSteps.{allows_load_word}
use Rattle.stamp_threads.proofs.record_steps.load_word.Goals as goal

pub load-requires : goal.load-requires
load-requires g c = (
  search rules,
  omega arith,
  allows_load_word _ _ _ _ _ c.requires.loading.0 _ _ c.requires.seat.2 c.requires.loading.2
      c.requires.loading.3 c.requires.inside.0,
)
