use Rattle.std.proofs.Common.{rules, arith}
use Rattle.stamp_threads.proofs.PutSteps.{allows_store_word}
use Rattle.stamp_threads.proofs.record_steps.store_word.Goals as goal

pub store-requires : goal.store-requires
store-requires g c = (
  search rules,
  omega arith,
  allows_store_word _ _ _ _ _ c.requires.writing.0 _ _ c.requires.writing.1 c.requires.seat.2
      c.requires.writing.2 c.requires.inside.0 c.requires.writing.3,
)
