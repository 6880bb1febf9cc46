use Rattle.std.proofs.Common.{◌*◌, ◌+◌, ◌-◌, ◌^◌}
use Rattle.stamp_cli.specs.Results.{taken_since}
use Rattle.stamped_watch.specs.inner.Served.{IsFedAndTold}
use Rattle.stamped_watch.proofs.serving.fed_from.Given as goal

abbrev pub invariant-source : goal.invariant-source
invariant-source g l = IsFedAndTold l.fn.asked (g.S.Source.left l.fn.source) (g.S.Source.left l.source)
    (g.S.Source.reads l.fn.source) (g.S.Source.reads l.source) l.judge l.chunk l.telling (g.T.Sink.sent l.fn.told)
    (g.T.Sink.sent l.told) (g.T.Sink.writes l.fn.told) (g.T.Sink.writes l.told)

-- a judge that has found nothing was fed fewer bytes
abbrev pub decreases-source : goal.decreases-source
decreases-source g l = 272 * 2 ^ 64 + 296 - taken_since (g.S.Source.reads l.fn.source) (g.S.Source.reads l.source)
