-- How often a call has tried in vain.
use Rattle.std.specs.Prelude.{ℕ, ◌+◌, min}

-- after one more round, of which sixteen are counted
abbrev pub one_more : ℕ → ℕ
one_more rounds = min (rounds + 1) 16
