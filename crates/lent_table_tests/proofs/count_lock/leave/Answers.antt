use Rattle.lent_table_tests.proofs.Counted.{leaves_now}
use Rattle.lent_table_tests.proofs.count_lock.leave.Goals as goal

pub fetch_sub-requires : goal.fetch_sub-requires
fetch_sub-requires c = (c.requires.0, leaves_now _ _ c.requires.1)
