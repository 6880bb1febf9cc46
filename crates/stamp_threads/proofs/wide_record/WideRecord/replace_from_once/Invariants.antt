use Rattle.stamp_threads.proofs.wide_record.WideRecord.replace_from_once.Given as goal

abbrev pub ghosts-acquire : goal.ghosts-acquire
ghosts-acquire g a = record { shape = a.table.now.key.shape; words = a.words.now }

abbrev pub ghosts-release_over : goal.ghosts-release_over
ghosts-release_over g a = record { shape = a.table.now.key.shape; words = a.words.now }
