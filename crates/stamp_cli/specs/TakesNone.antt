-- A read or a write that took no byte.
use Rattle.std.specs.Prelude.{ℕ, ◌==◌, Bool, true, Result, Ok, Err}

-- it failed, or there was no byte that it took
abbrev pub takes_none : {E : Type 0} → Result ℕ E → Bool
takes_none (Ok n) = n == 0
takes_none (Err e) = true
