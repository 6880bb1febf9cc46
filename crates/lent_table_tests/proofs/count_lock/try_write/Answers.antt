use Rattle.lent_table_tests.proofs.Counted.{takes_all}
use Rattle.lent_table_tests.proofs.count_lock.try_write.Goals as goal

pub compare_exchange-requires : goal.compare_exchange-requires
compare_exchange-requires c = (c.requires.0, takes_all _ _ c.requires.1)
