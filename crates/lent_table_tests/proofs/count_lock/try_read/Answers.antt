use Rattle.std.proofs.Common.{arith, ◌∙◌}
use Rattle.lent_table_tests.proofs.Counted.{comes_in}
use Rattle.lent_table_tests.proofs.count_lock.try_read.Goals as goal

pub compare_exchange-requires : goal.compare_exchange-requires
compare_exchange-requires c = (
  c.load-word.ensures.0 ∙ c.requires.0,
  comes_in _ _ (c.load-word.ensures.2.0 ∙ c.requires.1) _ (omega arith) (omega arith),
)
