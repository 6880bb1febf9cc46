-- Which fault of what is given for a script comes first.
use Rattle.std.specs.Prelude.{◌⊎◌, ℕ, ◌<◌, ◌≤◌, List, length, take, slice_index, All, Vec}
use Rattle.std.specs.Global.{Global}
use Rattle.stamp_machines.specs.Script.{Suits}
use Rattle.stamp_machines.specs.declared.script.ScriptCall.{ScriptCall}
use Rattle.stamp_machines.specs.declared.script_error.ScriptError.{ScriptError}
use Rattle.stamp_machines.specs.declared.script_error.ScriptError.TheVariants.{TooManyThreads}
use Rattle.stamp_machines.specs.declared.script_error.ScriptError.TheVariants.{TooManyCalls}
use Rattle.stamp_machines.specs.declared.script_error.ScriptError.TheVariants.{TooManySteps}
use Rattle.stamp_machines.specs.declared.script_error.ScriptError.TheVariants.{NoSuchThread}
use Rattle.stamp_machines.specs.declared.script_error.ScriptError.TheVariants.{RecordWidth}

-- the calls of a thread
abbrev pub thread_calls : Vec ScriptCall Global → List ScriptCall
thread_calls calls = calls.items

abbrev pub AreShort : List (Vec ScriptCall Global) → Type 0
AreShort threads = All (λ (calls : Vec ScriptCall Global). length calls.items ≤ 10000) threads

-- each call suits a record of this width
abbrev pub AreOfWidth : ℕ → List (Vec ScriptCall Global) → Type 0
AreOfWidth width threads =
    All (λ (calls : Vec ScriptCall Global). All (Suits width) calls.items) threads

-- each step is of one of this many threads
abbrev pub AreOfThreads : ℕ → List ℕ → Type 0
AreOfThreads threads steps = All (λ thread. thread < threads) steps

abbrev pub IsFirstUnknown : ℕ → List ℕ → ℕ → Type 0
IsFirstUnknown threads steps i =
    (i < length steps) × (threads ≤ slice_index steps i) × AreOfThreads threads (take i steps)

-- the fault holds, and none of those before it
abbrev pub IsFirstFault : ℕ → List (Vec ScriptCall Global) → List ℕ → ScriptError → Type 0
IsFirstFault width threads steps TooManyThreads = 64 < length threads
IsFirstFault width threads steps TooManyCalls = (length threads ≤ 64) × (AreShort threads → ⊥)
IsFirstFault width threads steps TooManySteps =
    (length threads ≤ 64) × AreShort threads × (1000000 < length steps)
IsFirstFault width threads steps (NoSuchThread i) =
    (length threads ≤ 64) × AreShort threads × (length steps ≤ 1000000)
    × IsFirstUnknown (length threads) steps i
IsFirstFault width threads steps RecordWidth =
    (length threads ≤ 64) × AreShort threads × (length steps ≤ 1000000)
    × AreOfThreads (length threads) steps × ((16 < width) ⊎ (AreOfWidth width threads → ⊥))

-- there is no fault
abbrev pub IsGood : ℕ → List (Vec ScriptCall Global) → List ℕ → Type 0
IsGood width threads steps =
    (length threads ≤ 64) × AreShort threads × (length steps ≤ 1000000)
    × AreOfThreads (length threads) steps × (width ≤ 16) × AreOfWidth width threads
