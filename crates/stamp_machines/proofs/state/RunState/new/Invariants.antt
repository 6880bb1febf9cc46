use Rattle.std.proofs.Common.{◌≡◌, ℕ, map, replicate, None, []}
use Rattle.stamp_machines.specs.StateFields.{begun_in, stamps_at}
use Rattle.stamp_machines.proofs.state.RunState.new.Given as goal

abbrev pub invariant-loop : goal.invariant-loop
invariant-loop l =
    record {
      begun : map begun_in l.workers.items ≡ replicate l.counter None;
      stamps : (t : ℕ) → stamps_at l.workers.items t ≡ [];
    }
