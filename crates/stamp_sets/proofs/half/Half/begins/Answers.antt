use Rattle.std.proofs.Common.{Some}
use Rattle.stamp_sets.specs.Judged.{judged}
use Rattle.stamp_sets.proofs.Answering.{begun_read, kept_states}
use Rattle.stamp_sets.proofs.Stepping.{busy_begun}
use Rattle.stamp_sets.proofs.half.Half.begins.Goals as goal

pub begin_in_each-requires-clause-states : goal.begin_in_each-requires-clause-states
begin_in_each-requires-clause-states c = kept_states (judged c.args.self.now.object) c.requires.some.past
    c.args.self.now.table.items c.requires.some.last c.args.self.now.positions.items c.requires.some.keeps.kept

pub returns-clause-keeps : goal.returns-clause-keeps
returns-clause-keeps c past last keeps = record {
  kept = begun_read (judged c.args.self.now.object) past last c.args.lane c.args.begun c.args.self.now.table.items
      c.put.new.table.items c.args.self.now.positions.items c.begin_in_each.new.positions.items c.requires.lane
      c.requires.idle c.put.ensures c.begin_in_each.ensures keeps.kept;
  busy = busy_begun c.args.self.now.table.items c.put.new.table.items c.args.lane c.args.self.now.busy
      c.with_lane-self.result keeps.busy (Some c.args.begun) c.put.ensures c.with_lane-self.ensures;
}
