use Rattle.stamp_core.specs.Layout.{units_of}
use Rattle.stamp_core.proofs.OneStampKind.{respelled_of}
use Rattle.stamp_core.proofs.respelling.respell.Goals as goal

pub returns : goal.returns
unfolding units_of
returns c = respelled_of c.args.stamp c.spelled.result c.stamp_kind.result c.stamp_kind.ensures c.spelled.ensures
