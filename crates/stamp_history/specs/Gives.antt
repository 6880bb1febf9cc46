-- What a call returned, beside what it was to read or to make.
use Rattle.std.specs.Prelude.{◌≡◌, ◌≢◌, Result, Ok, Err}

-- the result, seen by view, is what the reading gives, unless the error is the one for want of memory
abbrev pub Gives : {X Y E : Type 0} → E → (X → Y) → Result X E → Result Y E → Type 0
Gives memory view (Ok x) reading = reading ≡ Ok (view x)
Gives memory view (Err e) reading = e ≢ memory → reading ≡ Err e
