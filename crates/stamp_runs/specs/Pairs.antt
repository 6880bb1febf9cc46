-- Two objects side by side, and one of them alone: the same events tell of both.
use Rattle.std.specs.Prelude.{◌≡◌, Bool, not}
use Rattle.std.specs.Bool.{MatchBool}
use Rattle.stamp_core.specs.declared.call.Call.{Call}
use Rattle.stamp_runs.specs.Object.{Object}

-- one object among calls of others: those change nothing in it, and get any reply
abbrev pub Of : {S : Type 0} → (Call → Bool) → Object S → Object S
Of mine O s call reply next = MatchBool (mine call) (O s call reply next) (next ≡ s)

-- both: the first has these calls, the other those that are left
abbrev pub not_of : (Call → Bool) → Call → Bool
not_of mine call = not (mine call)

abbrev pub Pair : {S T : Type 0} → (Call → Bool) → Object S → Object T → Object (S × T)
Pair mine O P s call reply next = Of mine O s.0 call reply next.0 × Of (not_of mine) P s.1 call reply next.1
