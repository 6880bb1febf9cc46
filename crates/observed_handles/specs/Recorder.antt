-- What a recorder keeps of a call.
use Rattle.std.specs.Prelude.{ℕ, ◌≡◌, List, [], ◌∷◌, ◌++◌, Option, Some, None, Result, Ok, Err}
use Rattle.stamp_core.specs.declared.call.Call.{Call}
use Rattle.stamp_core.specs.declared.reply.Reply.{Reply}
use Rattle.stamp_core.specs.declared.reply.Reply.TheVariants.{Stamp}
use Rattle.stamp_explain.specs.declared.observed.Observation.{Observation}

-- a call that failed was not made, and has no reply
abbrev pub reply_if_made : {T E : Type 0} → (T → Option Reply) → Result T E → Option Reply
reply_if_made replied (Ok t) = replied t
reply_if_made replied (Err _) = None

-- a call that acquired nothing was made, and was answered 0
abbrev pub reply_or_zero : {T E : Type 0} → (T → Option Reply) → Result T E → Option Reply
reply_or_zero replied (Ok t) = replied t
reply_or_zero replied (Err _) = Some (Stamp 0)

-- a call that returned, as it was observed between two tickets
abbrev pub observed : ℕ → ℕ → ℕ → Call → Reply → Observation
observed thread first last call reply = record {
  thread = thread;
  call = call;
  first = first;
  returned = Some (record { last = last; reply = reply });
}

-- one call more, with its reply and two tickets; a call without a reply is not kept
abbrev pub WasKept : ℕ → ℕ → Call → Option Reply → List Observation → List Observation → Type 0
WasKept thread first call None before after = after ≡ before
WasKept thread first call (Some reply) before after =
    (last : ℕ) × (after ≡ before ++ observed thread first last call reply ∷ [])
