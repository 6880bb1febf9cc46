use Rattle.std.proofs.Common.{◌≤◌, ◌-◌, length, take}
use Rattle.std.specs.Io.KnownBytes.{Appends}
use Rattle.stamp_cli.specs.Results.{Makes}
use Rattle.stamp_cli.proofs.output.write_text.Given as goal

abbrev pub invariant-loop-sent : goal.invariant-loop-sent
invariant-loop-sent g l = record {
  within : l.sent ≤ length l.text;
  writes : Makes (g.K.Sink.writes l.fn.sink) (g.K.Sink.writes l.sink) l.sent;
  front : Appends (g.K.Sink.sent l.fn.sink) (g.K.Sink.sent l.sink) (take l.sent l.text);
}

abbrev pub decreases-loop-sent : goal.decreases-loop-sent
decreases-loop-sent g l = length l.text - l.sent
