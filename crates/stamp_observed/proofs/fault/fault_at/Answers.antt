use Rattle.stamp_explain.proofs.Replying.{read_at}
use Rattle.stamp_observed.proofs.fault.fault_at.Goals as goal

pub returns-clause-fault : goal.returns-clause-fault
returns-clause-fault c = record {
  is_entry = read_at c.args.observed.now c.index-entries-entry.result c.entries-entries.result.now c.requires.returned
      c.index-entries-entry.is c.entries-entries.ensures.entries;
  returned = c.in-Some.is;
  possible = c.in_ok-possible.ensures;
  stamp = rw (c.entries-entries.ensures.entries) at c.issued_stamp.ensures;
  writes = rw (c.entries-entries.ensures.entries) at c.writes_by.ensures;
}
