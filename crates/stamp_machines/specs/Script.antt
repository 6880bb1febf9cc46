-- What a script is.
use Rattle.std.specs.Prelude.{◌≡◌, ℕ, ◌<◌, ◌≤◌, List, [], length, All, slice_index_or}
use Rattle.stamp_core.specs.Limits.{Bounds, AreInRange}
use Rattle.stamp_machines.specs.declared.script.ScriptCall.{ScriptCall}
use Rattle.stamp_machines.specs.declared.script.ScriptCall.TheVariants.{Get, Put, PutIf}

-- the calls of each thread, and the numbers of the threads in the order in which they step
pub record Scripted : Type 0 where
  pub limits : Bounds
  pub width : ℕ
  pub threads : List (List ScriptCall)
  pub steps : List ℕ

abbrev pub calls_of : Scripted → ℕ → List ScriptCall
calls_of script thread = slice_index_or script.threads thread []

-- a call of the record has the record's width, which is not 0
abbrev pub Suits : ℕ → ScriptCall → Type 0
Suits width Get = 0 < width
Suits width (Put a) = (0 < width) × (length a ≡ width)
Suits width (PutIf a b) = (0 < width) × (length a ≡ width) × (length b ≡ width)
Suits width _ = Unit {0}

-- what each script keeps to
pub record IsSound (script : Scripted) : Type 0 where
  pub range : AreInRange script.limits
  pub width : script.width ≤ 16
  pub threads : length script.threads ≤ 64
  pub short : All (λ calls. length calls ≤ 10000) script.threads
  pub suited : All (λ calls. All (Suits script.width) calls) script.threads
