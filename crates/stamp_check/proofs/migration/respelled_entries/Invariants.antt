use Rattle.std.proofs.Common.{◌≡◌, ◌++◌, map, take, drop}
use Rattle.stamp_check.specs.Migration.{respelled_entry}
use Rattle.stamp_check.proofs.migration.respelled_entries.Given as goal

abbrev pub invariant-loop-entry : goal.invariant-loop-entry
invariant-loop-entry l = l.entry-items ≡ map respelled_entry (take l.entry-index l.fn.entries.items) ++
    drop l.entry-index l.fn.entries.items
