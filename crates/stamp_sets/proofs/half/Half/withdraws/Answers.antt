use Rattle.stamp_sets.proofs.Answering.{withdrawn_read}
use Rattle.stamp_sets.proofs.Stepping.{busy_ended}
use Rattle.stamp_sets.proofs.half.Half.withdraws.Goals as goal

pub returns-clause-keeps : goal.returns-clause-keeps
returns-clause-keeps c past last keeps = record {
  kept = withdrawn_read c.args.self.now.object past last c.args.lane c.args.self.now.table.items c.put.new.table.items
      c.args.self.now.positions.items keeps.kept c.requires.told c.put.ensures;
  busy = busy_ended c.args.self.now.table.items c.put.new.table.items c.args.lane c.args.self.now.busy
      c.without_lane-self.result keeps.busy c.put.ensures c.without_lane-self.ensures;
}
