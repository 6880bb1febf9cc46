use Rattle.std.proofs.Common.{◌∙◌}
use Rattle.lent_table_tests.proofs.Counted.{goes_out}
use Rattle.lent_table_tests.proofs.count_lock.try_leave.Goals as goal

pub compare_exchange-requires : goal.compare_exchange-requires
compare_exchange-requires c = (
  c.load-word.ensures.0 ∙ c.requires.0,
  goes_out _ _ (c.requires.1.0, c.load-word.ensures.2.0 ∙ c.requires.1.1) _,
)
