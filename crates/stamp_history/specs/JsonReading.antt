-- Readings: a value, or the first fault.
use Rattle.std.specs.Prelude.{ℕ, ◌+◌, List, [], ◌∷◌, Bool, Option, Some, None, Result, Ok, Err, if◌then◌else◌}
use Rattle.std.specs.Str.{is_utf8}
use Rattle.serde_json.specs.Data.{Data, Items, no_items, item}
use Rattle.serde_json.specs.Read.{read}
use Rattle.stamp_history.specs.declared.read_error.ReadError.{ReadError}
use Rattle.stamp_history.specs.declared.read_error.ReadError.TheVariants.{NotJson}

-- one reading, and then another of what it gave
infixl 10 ◌>>=◌
abbrev pub ◌>>=◌ : {A B : Type 0} → Result A ReadError → (A → Result B ReadError) → Result B ReadError
(Ok x) >>= f = f x
(Err e) >>= f = Err e

-- a value of the right kind, or this fault
abbrev pub kind : {A : Type 0} → ReadError → Option A → Result A ReadError
kind mistake None = Err mistake
kind mistake (Some x) = Ok x

-- a value of the right kind, or the one fault; and in its range, or the other
abbrev pub ranged : {A : Type 0} → ReadError → ReadError → (A → Bool) → Option A → Result A ReadError
ranged mistake over fits None = Err mistake
ranged mistake over fits (Some x) = if fits x then Ok x else Err over

-- each item as one reads it, the first of which is item i
abbrev pub each : {A : Type 0} → (ℕ → Data → Result A ReadError) → ℕ → Items → Result (List A) ReadError
each one i no_items = Ok []
each one i (item d ds) = do
  first ← one i d
  later ← each one (i + 1) ds
  Ok (first ∷ later)

-- the value of a text that is UTF-8 and JSON
abbrev pub json_of : List ℕ → Result Data ReadError
json_of bytes = kind NotJson (if is_utf8 bytes then read bytes else None)
