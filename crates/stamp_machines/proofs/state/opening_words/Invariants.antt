use Rattle.std.proofs.Common.{◌≡◌, ◌∷◌, replicate}
use Rattle.stamp_machines.proofs.state.opening_words.Given as goal

abbrev pub invariant-loop : goal.invariant-loop
invariant-loop l = l.words.items ≡ l.opening ∷ l.opening ∷ replicate l.counter 0
