-- The results of a call's reads or writes. A source keeps those of all its reads, and a sink of its writes.
use Rattle.std.specs.Prelude.{ℕ, ◌-◌, ◌≡◌, ◌↔◌, ◌⊎◌, ◌≤◌, ◌++◌, List, [], ◌∷◌, length, take, drop, sum_by, All}
use Rattle.std.specs.Prelude.{Bool, true, false, Result, Ok, Err, IfOk, IfErr, is_err, Vec}
use Rattle.std.specs.List.{list_any}
use Rattle.std.specs.declared.alloc.Global.{Global}
use Rattle.std.specs.declared.io.Error.{Error}
use Rattle.stamp_cli.specs.TakesNone.{takes_none}
use Rattle.stamp_cli.specs.declared.faults.ServeFault.{ServeFault}
use Rattle.stamp_cli.specs.declared.faults.ServeFault.TheVariants.{ReadFault, Memory}

-- the first one first
abbrev pub Results : Type 0
Results = List (Result ℕ Error)

-- how many bytes one took
abbrev pub bytes_of : Result ℕ Error → ℕ
bytes_of (Ok n) = n
bytes_of (Err e) = 0

-- each of these took a byte
abbrev pub EachTakes : Results → Type 0
EachTakes results = All (λ result. takes_none result ≡ false) results

-- each one that was made took a byte, and together they took this many
pub record Makes (old new : Results) (bytes : ℕ) : Type 0 where
  pub made : Results
  pub added : new ≡ old ++ made
  pub few : length made ≤ bytes
  pub took : sum_by bytes_of made ≡ bytes
  pub each : EachTakes made

-- no more than `most` were made, none after one that took no byte, and they took no more bytes than `bytes`
pub record MakesAtMost (old new : Results) (most bytes : ℕ) : Type 0 where
  pub made : Results
  pub added : new ≡ old ++ made
  pub few : length made ≤ most
  pub took : sum_by bytes_of made ≤ bytes
  pub to_end : EachTakes (take (length made - 1) made)

-- whether one that was made since passes the test
abbrev pub any_since : (Result ℕ Error → Bool) → Results → Results → Bool
any_since test old new = list_any test (drop (length old) new)

-- how many bytes those that were made since took together
abbrev pub taken_since : Results → Results → ℕ
taken_since old new = sum_by bytes_of (drop (length old) new)

-- the last one that was made since took no byte, and did not fail
abbrev pub LastTakesNone : Results → Results → Type 0
LastTakesNone old new = (earlier : Results) × (drop (length old) new ≡ earlier ++ Ok 0 ∷ [])

-- those that were made since went to the end: the last one took no byte, or together they took the most that they may
abbrev pub ReadsToTheEnd : Results → Results → ℕ → Type 0
ReadsToTheEnd old new most = LastTakesNone old new ⊎ (taken_since old new ≡ most)

-- it ended in the fault of reading exactly where a read failed
abbrev pub FailsWithARead : {A E : Type 0} → E → Results → Results → Result A E → Type 0
FailsWithARead read_fault old new result = (result ≡ Err read_fault) ↔ (any_since is_err old new ≡ true)

-- what was read of an input, if it was, is all that the reads took
abbrev pub GivesAllTaken : Results → Results → Result (Vec ℕ Global) ServeFault → Type 0
GivesAllTaken old new result = IfOk result (λ input. length input.items ≡ taken_since old new)

-- no other fault than these two ends the reading of an input
abbrev pub IsReadOrMemoryFault : {A : Type 0} → Result A ServeFault → Type 0
IsReadOrMemoryFault result = IfErr result (λ e. (e ≡ ReadFault) ⊎ (e ≡ Memory))
