-- Calls that never lose an exchange.
use Rattle.std.proofs.Common.{◌≡◌, ℕ, [], rules, refl, ap, sym, ◌∙◌}
use Rattle.stamp_core.specs.Limits.{Bounds}
use Rattle.stamp_core.specs.History.{appended_by}
use Rattle.stamp_core.specs.declared.call.Call.{Call}
use Rattle.stamp_core.specs.declared.call.Call.TheVariants.{Optimistic, Validate, UnlockWrite}
use Rattle.stamp_core.specs.declared.call.Call.TheVariants.{IsWriteLocked, IsReadLocked, ReadCount}
use Rattle.stamp_threads.specs.LockLog.{LockLog, transition_after, Appends}
use Rattle.stamp_threads.specs.LockPass.{LockPassView, LeavesWord}
use Rattle.stamp_threads.specs.Made.{try_form}
use Rattle.stamp_threads.specs.LostExchange.{LostExchange}
use Rattle.stamped_lock.specs.inner.Replies.{NeverLoses}

pub never_losing_is_tried : (call : Call) → NeverLoses call → try_form call ≡ call
never_losing_is_tried Optimistic is = refl
never_losing_is_tried (Validate s) is = refl
never_losing_is_tried (UnlockWrite s) is = refl
never_losing_is_tried IsWriteLocked is = refl
never_losing_is_tried IsReadLocked is = refl
never_losing_is_tried ReadCount is = refl
never_losing_is_tried _ is = absurd is

-- a call that appends nothing makes no exchange
asks_only : (limits : Bounds) (log : LockLog) (call : Call) →
    appended_by (transition_after limits log call) ≡ [] → Appends limits log call → ⊥
asks_only limits log call none appends =
    appends.some (sym (ap appended_by appends.transition_is) ∙ none)

-- the word of a lock that the stamp can release from write mode is the stamp
held_word : (limits : Bounds) (s word : ℕ) (v : LockPassView) (log : LockLog) →
    LeavesWord limits v word log → Appends limits log (UnlockWrite s) → word ≡ s
held_word limits s word v log leaves appends = search rules

-- so it can't be that one word and then another
unlock_write_wins : (limits : Bounds) (s loaded found : ℕ) (v w : LockPassView) →
    LostExchange limits (UnlockWrite s) loaded found v w → ⊥
unlock_write_wins limits s loaded found v w lost =
    lost.differ (held_word limits s loaded v lost.first lost.at_first lost.first_appends ∙
    sym (held_word limits s found v w.known lost.at_second lost.second_appends))

pub never_loses : (limits : Bounds) (call : Call) (loaded found : ℕ) (v w : LockPassView) →
    NeverLoses call → LostExchange limits call loaded found v w → ⊥
never_loses limits Optimistic loaded found v w is lost =
    asks_only limits lost.first Optimistic refl lost.first_appends
never_loses limits (Validate s) loaded found v w is lost =
    asks_only limits lost.first (Validate s) refl lost.first_appends
never_loses limits (UnlockWrite s) loaded found v w is lost =
    unlock_write_wins limits s loaded found v w lost
never_loses limits IsWriteLocked loaded found v w is lost =
    asks_only limits lost.first IsWriteLocked refl lost.first_appends
never_loses limits IsReadLocked loaded found v w is lost =
    asks_only limits lost.first IsReadLocked refl lost.first_appends
never_loses limits ReadCount loaded found v w is lost =
    asks_only limits lost.first ReadCount refl lost.first_appends
never_loses limits _ loaded found v w is lost = absurd is
