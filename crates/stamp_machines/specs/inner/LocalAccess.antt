-- What comes of an access, as a stage sees it.
use Rattle.std.specs.Prelude.{ℕ, ◌==◌, List, if◌then◌else◌, slice_index, slice_set}
use Rattle.stamp_machines.specs.LocalAccess.{LocalAccess}
use Rattle.stamp_machines.specs.LocalAccess.LocalAccess.{LoadLock, CasLock, LoadWord, StoreWord}

-- the lock's word and the record's words after the access, and what it finds
abbrev pub lock_after : LocalAccess → ℕ → ℕ
lock_after LoadLock lock = lock
lock_after (CasLock old new) lock = if lock == old then new else lock
lock_after (LoadWord i) lock = lock
lock_after (StoreWord i value) lock = lock

abbrev pub record_words_after : LocalAccess → List ℕ → List ℕ
record_words_after LoadLock record_words = record_words
record_words_after (CasLock old new) record_words = record_words
record_words_after (LoadWord i) record_words = record_words
record_words_after (StoreWord i value) record_words = slice_set record_words i value

abbrev pub local_found : LocalAccess → ℕ → List ℕ → ℕ
local_found LoadLock lock record_words = lock
local_found (CasLock old new) lock record_words = lock
local_found (LoadWord i) lock record_words = slice_index record_words i
local_found (StoreWord i value) lock record_words = slice_index record_words i
