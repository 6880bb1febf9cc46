use Rattle.std.proofs.Common.{[]}
use Rattle.stamp_threads.proofs.wide_record.WideRecord.enter.Given as goal

abbrev pub ghosts-enter : goal.ghosts-enter
ghosts-enter g a = record { shape = a.table.now.key.shape; words = [] }
