use Rattle.std.proofs.Common.{[]}
use Rattle.stamp_threads.proofs.record_see.see_or_deny.Given as goal

abbrev pub ghosts-load_for_get : goal.ghosts-load_for_get
ghosts-load_for_get g a = record { shape = a.table.now.key.shape; words = [] }

abbrev pub ghosts-see : goal.ghosts-see
ghosts-see g a = record { shape = a.table.now.key.shape; words = a.words.now }

abbrev pub ghosts-deny : goal.ghosts-deny
ghosts-deny g a = record {
  shape = a.table.now.key.shape;
  loaded = a.loaded.now;
  expected = a.expected.now;
  words = a.words.now;
}
