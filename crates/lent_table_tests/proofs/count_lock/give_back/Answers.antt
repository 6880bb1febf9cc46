use Rattle.lent_table_tests.proofs.Counted.{gives_all}
use Rattle.lent_table_tests.proofs.count_lock.give_back.Goals as goal

pub compare_exchange-requires : goal.compare_exchange-requires
compare_exchange-requires c = (c.requires.0, gives_all _ _ c.requires.1)
