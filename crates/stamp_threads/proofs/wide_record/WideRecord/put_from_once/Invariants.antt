use Rattle.std.proofs.Common.{[]}
use Rattle.stamp_threads.proofs.wide_record.WideRecord.put_from_once.Given as goal

abbrev pub ghosts-load_for_put : goal.ghosts-load_for_put
ghosts-load_for_put g a = record { shape = a.table.now.key.shape; words = [] }

abbrev pub ghosts-acquire : goal.ghosts-acquire
ghosts-acquire g a = record { shape = a.table.now.key.shape; words = a.words.now }

abbrev pub ghosts-release : goal.ghosts-release
ghosts-release g a = record { shape = a.table.now.key.shape; words = a.words.now }
