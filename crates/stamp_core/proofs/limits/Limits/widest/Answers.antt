use Rattle.stamp_core.proofs.WordNumbers.{in_range}
use Rattle.stamp_core.proofs.limits.Limits.widest.Goals as goal

pub invariant_of-result : goal.invariant_of-result
invariant_of-result c = in_range c.args.layout _ _ c.most_readers.ensures c.most_versions.ensures
