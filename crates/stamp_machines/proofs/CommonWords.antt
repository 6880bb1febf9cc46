-- What an access does to the common words.
use Rattle.std.proofs.Common.{◌≡◌, ℕ, ◌+◌, ◌==◌, Bool, true, false, List, [], ◌∷◌, length, drop}
use Rattle.std.proofs.Common.{Option, Some, None, if◌then◌else◌, refl, sym, arith, suc}
use Rattle.std.proofs.lemmas.Bool.Decides.{nat_tests}
use Rattle.std.proofs.lemmas.List.{set-get_or}
use Rattle.std.specs.Prelude.{slice_index, slice_set}
use Rattle.stamp_core.specs.Limits.{Bounds}
use Rattle.stamp_core.specs.declared.call.Call.{Call}
use Rattle.stamp_core.specs.Word.{LockWord}
use Rattle.stamp_core.specs.declared.reply.Reply.{Reply}
use Rattle.stamp_core.specs.declared.decision.Decision.{Decision}
use Rattle.stamp_core.specs.declared.decision.Decision.TheVariants.{Answer, Change, Wait}
use Rattle.stamp_machines.specs.Access.{words_after, found_by}
use Rattle.stamp_core.specs.CountedDecision.{decision}
use Rattle.stamp_machines.specs.LocalAccess.{LocalAccess, LoadLock, CasLock, LoadWord, StoreWord, with_lock}
use Rattle.stamp_machines.specs.inner.LocalAccess.{lock_after, record_words_after, local_found}
use Rattle.stamp_machines.specs.LockPhase.{phase_plan, plan_on}

-- the access is to the lock's word
abbrev pub IsToLock : LocalAccess → Type 0
IsToLock LoadLock = Unit {0}
IsToLock (CasLock old new) = Unit {0}
IsToLock (LoadWord i) = ⊥
IsToLock (StoreWord i v) = ⊥

pub phase-to_lock : (limits : Bounds) (call : Call) (seen : Option ℕ) →
    IsToLock (phase_plan limits call seen)
phase-to_lock limits call None = tt
phase-to_lock limits call (Some word) = go (decision limits word call)
  where
    go : (d : Decision) → IsToLock (plan_on word d)
    go (Answer r) = tt
    go (Change new r) = tt
    go Wait = tt

pub split-words : (words : List ℕ) (n : ℕ) → length words ≡ 2 + n →
    words ≡ slice_index words 0 ∷ slice_index words 1 ∷ drop 2 words
split-words [] n h = absurd (omega arith)
split-words (x ∷ []) n h = absurd (omega arith)
split-words (x ∷ y ∷ record_words) n h = refl

on-lock : (a : LocalAccess) (x y : ℕ) (record_words : List ℕ) → IsToLock a →
    words_after (with_lock 0 a) (x ∷ y ∷ record_words) ≡ lock_after a x ∷ y ∷ record_words
on-lock LoadLock x y record_words h = refl
on-lock (CasLock old new) x y record_words h = go (x == old)
  where
    go : (b : Bool) → (if b then slice_set (x ∷ y ∷ record_words) 0 new else x ∷ y ∷ record_words)
        ≡ (if b then new else x) ∷ y ∷ record_words
    go true = refl
    go false = refl
on-lock (LoadWord i) x y record_words h = absurd h
on-lock (StoreWord i v) x y record_words h = absurd h

-- an access to a lock's word changes no other
word-set : (at : ℕ) (a : LocalAccess) (words : List ℕ) → IsToLock a →
    words_after (with_lock at a) words ≡ slice_set words at (lock_after a (slice_index words at))
word-set at LoadLock words h = sym (set-get_or words at 0)
word-set at (CasLock old new) words h = go (slice_index words at == old)
  where
    go : (b : Bool) → (if b then slice_set words at new else words)
        ≡ slice_set words at (if b then new else slice_index words at)
    go true = refl
    go false = sym (set-get_or words at 0)
word-set at (LoadWord i) words h = absurd h
word-set at (StoreWord i v) words h = absurd h

pub phase-word_set : (at : ℕ) (limits : Bounds) (call : Call) (seen : Option ℕ) (words : List ℕ) →
    words_after (with_lock at (phase_plan limits call seen)) words
    ≡ slice_set words at (lock_after (phase_plan limits call seen) (slice_index words at))
phase-word_set at limits call seen words =
    word-set at (phase_plan limits call seen) words (phase-to_lock limits call seen)

-- an exchange of the word that it finds puts what the call changes that word to
pub won-word : (limits : Bounds) (call : Call) (seen : Option ℕ) (found : ℕ) (new : LockWord)
    (reply : Reply) → seen ≡ Some found → decision limits found call ≡ Change new reply →
    new.bits ≡ lock_after (phase_plan limits call seen) found
won-word limits call seen found new reply is says =
    let same : (found == found) ≡ true = grind (arith, nat_tests) in rw (is, says, same) refl

found-lock : (a : LocalAccess) (x y : ℕ) (record_words : List ℕ) → IsToLock a →
    found_by (with_lock 0 a) (x ∷ y ∷ record_words) ≡ local_found a x []
found-lock LoadLock x y record_words h = refl
found-lock (CasLock old new) x y record_words h = refl
found-lock (LoadWord i) x y record_words h = absurd h
found-lock (StoreWord i v) x y record_words h = absurd h

two-more : (i : ℕ) → 2 + i ≡ suc (suc i)
two-more i = omega arith

on-record : (a : LocalAccess) (x y : ℕ) (record_words : List ℕ) →
    words_after (with_lock 1 a) (x ∷ y ∷ record_words) ≡ x ∷ lock_after a y ∷ record_words_after a record_words
on-record LoadLock x y record_words = refl
on-record (CasLock old new) x y record_words = go (y == old)
  where
    go : (b : Bool) → (if b then slice_set (x ∷ y ∷ record_words) 1 new else x ∷ y ∷ record_words)
        ≡ x ∷ (if b then new else y) ∷ record_words
    go true = refl
    go false = refl
on-record (LoadWord i) x y record_words = refl
on-record (StoreWord i v) x y record_words = rw (two-more i) refl

found-record : (a : LocalAccess) (x y : ℕ) (record_words : List ℕ) →
    found_by (with_lock 1 a) (x ∷ y ∷ record_words) ≡ local_found a y record_words
found-record LoadLock x y record_words = refl
found-record (CasLock old new) x y record_words = refl
found-record (LoadWord i) x y record_words = rw (two-more i) refl
found-record (StoreWord i v) x y record_words = rw (two-more i) refl

-- an access to the lock leaves all other words
pub record LockMoves (words : List ℕ) (a : LocalAccess) : Type 0 where
  pub after : words_after (with_lock 0 a) words
      ≡ lock_after a (slice_index words 0) ∷ slice_index words 1 ∷ drop 2 words
  pub found : found_by (with_lock 0 a) words ≡ local_found a (slice_index words 0) []

-- an access of a call of the record leaves the word of the lock
pub record RecordMoves (words : List ℕ) (a : LocalAccess) : Type 0 where
  pub after : words_after (with_lock 1 a) words
      ≡ slice_index words 0 ∷ lock_after a (slice_index words 1) ∷ record_words_after a (drop 2 words)
  pub found : found_by (with_lock 1 a) words ≡ local_found a (slice_index words 1) (drop 2 words)

pub lock-moves : (words : List ℕ) (n : ℕ) (a : LocalAccess) → length words ≡ 2 + n → IsToLock a →
    LockMoves words a
lock-moves [] n a h i = absurd (omega arith)
lock-moves (x ∷ []) n a h i = absurd (omega arith)
lock-moves (x ∷ y ∷ record_words) n a h i =
    record { after = on-lock a x y record_words i; found = found-lock a x y record_words i }

pub record-moves : (words : List ℕ) (n : ℕ) (a : LocalAccess) → length words ≡ 2 + n →
    RecordMoves words a
record-moves [] n a h = absurd (omega arith)
record-moves (x ∷ []) n a h = absurd (omega arith)
record-moves (x ∷ y ∷ record_words) n a h =
    record { after = on-record a x y record_words; found = found-record a x y record_words }
