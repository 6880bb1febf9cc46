use Rattle.std.proofs.Common.{[]}
use Rattle.stamp_threads.proofs.wide_record.WideRecord.meet.Given as goal

abbrev pub ghosts-load_both : goal.ghosts-load_both
ghosts-load_both g a = record { shape = a.table.now.key.shape; words = [] }
