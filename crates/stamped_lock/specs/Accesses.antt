-- How many accesses of the lock word a handle's call made.
use Rattle.std.specs.Prelude.{◌⊎◌, ℕ, [], ◌∷◌}
use Rattle.stamp_threads.specs.PassView.{HasFound}
use Rattle.stamped_lock.specs.LockHandleView.{LockHandleView}

-- it made one, which found a word
abbrev pub AccessesOnce : LockHandleView → LockHandleView → Type 0
AccessesOnce h h' = (word : ℕ) × HasFound h.pass (word ∷ []) h'.pass

-- it made one, or a load and an exchange, which found a word each
abbrev pub AccessesOnceOrTwice : LockHandleView → LockHandleView → Type 0
AccessesOnceOrTwice h h' = AccessesOnce h h' ⊎
    ((loaded : ℕ) × (found : ℕ) × HasFound h.pass (loaded ∷ found ∷ []) h'.pass)
