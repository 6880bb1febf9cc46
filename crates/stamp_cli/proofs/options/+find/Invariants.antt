use Rattle.std.proofs.Common.{length}
use Rattle.stamp_cli.proofs.options.+find.Given as goal

abbrev pub decreases-find : goal.decreases-find
decreases-find l = length l.args.now
