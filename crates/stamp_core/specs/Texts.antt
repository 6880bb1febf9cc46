-- Calls, replies and the words of a record as texts.
use Rattle.std.specs.Prelude.{ℕ, List, [], ◌∷◌, ◌++◌, codes, decimal}
use Rattle.stamp_core.specs.declared.call.Call.{Call}
use Rattle.stamp_core.specs.declared.call.Call.TheVariants as call
use Rattle.stamp_core.specs.declared.reply.Reply.{Reply}
use Rattle.stamp_core.specs.declared.reply.Reply.TheVariants as reply

-- numbers, the first behind these signs and each other behind a comma
abbrev pub numbers_text : List ℕ → List ℕ → List ℕ
numbers_text lead [] = []
numbers_text lead (n ∷ ns) = lead ++ (decimal n ++ numbers_text (codes ", ") ns)

-- the words of a record, in brackets
abbrev pub words_text : List ℕ → List ℕ
words_text words = codes "[" ++ (numbers_text [] words ++ codes "]")

-- a call's name, and what it takes
abbrev pub call_text : Call → List ℕ
call_text call.TryWrite = codes "try_write"
call_text call.TryRead = codes "try_read"
call_text call.WriteLock = codes "write_lock"
call_text call.ReadLock = codes "read_lock"
call_text call.Optimistic = codes "optimistic"
call_text (call.Validate s) = codes "validate " ++ decimal s
call_text (call.UnlockWrite s) = codes "unlock_write " ++ decimal s
call_text (call.UnlockRead s) = codes "unlock_read " ++ decimal s
call_text (call.Unlock s) = codes "unlock " ++ decimal s
call_text (call.ToWrite s) = codes "to_write " ++ decimal s
call_text (call.ToRead s) = codes "to_read " ++ decimal s
call_text (call.ToOptimistic s) = codes "to_optimistic " ++ decimal s
call_text call.TryUnlockWrite = codes "try_unlock_write"
call_text call.TryUnlockRead = codes "try_unlock_read"
call_text call.IsWriteLocked = codes "is_write_locked"
call_text call.IsReadLocked = codes "is_read_locked"
call_text call.ReadCount = codes "read_count"
call_text call.Get = codes "get"
call_text (call.Put words) = codes "put " ++ words_text words
call_text (call.PutIf expected words) =
    codes "put_if " ++ (words_text expected ++ (codes " " ++ words_text words))

abbrev pub reply_text : Reply → List ℕ
reply_text (reply.Stamp s) = decimal s
reply_text reply.Yes = codes "yes"
reply_text reply.No = codes "no"
reply_text reply.Done = codes "done"
reply_text reply.Mismatch = codes "mismatch"
reply_text (reply.Count n) = codes "count " ++ decimal n
reply_text (reply.Content words) = words_text words
