use Rattle.std.proofs.Common.{◌≡◌, ◌≤◌, ◌-◌, []}
use Rattle.stamp_machines.specs.CompletionsFields.{IsAfter, calls_after}
use Rattle.stamp_machines.proofs.completions.run_on.Given as goal

abbrev pub invariant-loop-made : goal.invariant-loop-made
invariant-loop-made l =
    record {
      after : IsAfter l.script l.state l.made;
      none : l.state.entries.items ≡ [];
      onward : l.fn.made ≤ l.made;
      rest : calls_after l.script l.made ≡ calls_after l.script l.fn.made;
    }

abbrev pub decreases-loop-made : goal.decreases-loop-made
decreases-loop-made l = l.steps - l.made
