-- The calls of the guarded record, and what each stores.
use Rattle.std.specs.Prelude.{ℕ, Bool, true, false, List, [], Option, Some, None}
use Rattle.stamp_core.specs.Content.{same_words}
use Rattle.stamp_core.specs.declared.call.Call.{Call}
use Rattle.stamp_core.specs.declared.call.Call.TheVariants.{Get, Put, PutIf}
use Rattle.stamp_core.specs.declared.reply.Reply.{Reply}
use Rattle.stamp_core.specs.declared.reply.Reply.TheVariants as reply

pub data Job : Type 0 where
  Getting : Job
  Putting : List ℕ → Job
  PuttingIf : List ℕ → List ℕ → Job

-- the call of the record that a call is; none for a call of the lock
abbrev pub job_of_call : Call → Option Job
job_of_call Get = Some Getting
job_of_call (Put words) = Some (Putting words)
job_of_call (PutIf expected words) = Some (PuttingIf expected words)
job_of_call _ = None

-- the words that it stores
abbrev pub new_words : Job → List ℕ
new_words Getting = []
new_words (Putting words) = words
new_words (PuttingIf expected words) = words

-- whether it stores where the record holds this
abbrev pub expects : Job → List ℕ → Bool
expects Getting content = true
expects (Putting words) content = true
expects (PuttingIf expected words) content = same_words content expected

abbrev pub is_get : Job → Bool
is_get Getting = true
is_get (Putting words) = false
is_get (PuttingIf expected words) = false

-- its reply once its words are stored
abbrev pub stored_reply : Job → Reply
stored_reply Getting = reply.Done
stored_reply (Putting words) = reply.Done
stored_reply (PuttingIf expected words) = reply.Yes
