-- The text of a call, from its name.
use Rattle.std.proofs.Common.{◌≡◌, ◌∙◌, ◌++◌, List, ℕ, refl, sym, true, ap, append_assoc}
use Rattle.std.specs.Prelude.{codes}
use Rattle.serde_json.specs.Data.{string}
use Rattle.serde_json.specs.Written.{compact_text, items_text}
use Rattle.serde_json.proofs.OnLiterals.{serde_json_on_literals}
use Rattle.stamp_core.specs.declared.call.Call.{Call}
use Rattle.stamp_core.specs.declared.call.Call.TheVariants.{TryWrite, TryRead, WriteLock, ReadLock}
use Rattle.stamp_core.specs.declared.call.Call.TheVariants.{Optimistic, Validate, UnlockWrite}
use Rattle.stamp_core.specs.declared.call.Call.TheVariants.{UnlockRead, Unlock, ToWrite, ToRead}
use Rattle.stamp_core.specs.declared.call.Call.TheVariants.{ToOptimistic, TryUnlockWrite}
use Rattle.stamp_core.specs.declared.call.Call.TheVariants.{TryUnlockRead, IsWriteLocked}
use Rattle.stamp_core.specs.declared.call.Call.TheVariants.{IsReadLocked, ReadCount, Get, Put}
use Rattle.stamp_core.specs.declared.call.Call.TheVariants.{PutIf}
use Rattle.stamp_history.specs.HistoryText.{call_name, arguments, call_data}

-- a name is quoted as it is, since it has nothing to escape
name_text : (c : Call) → compact_text (string (call_name c)) ≡ codes "\"" ++ (call_name c ++ codes "\"")
unfolding serde_json_on_literals
name_text TryWrite = refl
name_text TryRead = refl
name_text WriteLock = refl
name_text ReadLock = refl
name_text Optimistic = refl
name_text (Validate stamp) = refl
name_text (UnlockWrite stamp) = refl
name_text (UnlockRead stamp) = refl
name_text (Unlock stamp) = refl
name_text (ToWrite stamp) = refl
name_text (ToRead stamp) = refl
name_text (ToOptimistic stamp) = refl
name_text TryUnlockWrite = refl
name_text TryUnlockRead = refl
name_text IsWriteLocked = refl
name_text IsReadLocked = refl
name_text ReadCount = refl
name_text Get = refl
name_text (Put words) = refl
name_text (PutIf expected words) = refl

pub call_text : (c : Call) → codes "[\"" ++ (call_name c ++ (codes "\"" ++ items_text true (arguments c))) ≡
    compact_text (call_data c)
call_text c =
    ap (λ (rest : List ℕ). codes "[\"" ++ rest)
    (sym (append_assoc (call_name c) (codes "\"") (items_text true (arguments c))))
    ∙ ap (λ (name : List ℕ). codes "[" ++ (name ++ items_text true (arguments c))) (sym (name_text c))
