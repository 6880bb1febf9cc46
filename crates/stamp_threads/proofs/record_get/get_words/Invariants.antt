use Rattle.std.proofs.Common.{[]}
use Rattle.stamp_threads.proofs.record_get.get_words.Given as goal

abbrev pub ghosts-load_for_get : goal.ghosts-load_for_get
ghosts-load_for_get g a = record { shape = a.table.now.key.shape; words = [] }

abbrev pub ghosts-confirm : goal.ghosts-confirm
ghosts-confirm g a = record { shape = a.table.now.key.shape; words = a.words.now }
