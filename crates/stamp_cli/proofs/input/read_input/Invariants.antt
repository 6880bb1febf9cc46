use Rattle.std.proofs.Common.{◌≤◌, ◌<◌, ◌-◌, length}
use Rattle.std.specs.Io.KnownBytes.{Consumes}
use Rattle.stamp_cli.specs.Results.{Makes}
use Rattle.stamp_cli.proofs.input.read_input.Given as goal

abbrev pub invariant-loop-source : goal.invariant-loop-source
invariant-loop-source g l = record {
  room : 0 < length l.chunk.items;
  within : length l.input.items ≤ 16777217;
  reads : Makes (g.S.Source.reads l.fn.source) (g.S.Source.reads l.source) (length l.input.items);
  took : Consumes (g.S.Source.left l.fn.source) (g.S.Source.left l.source) l.input.items;
}

abbrev pub decreases-loop-source : goal.decreases-loop-source
decreases-loop-source g l = 16777217 - length l.input.items
