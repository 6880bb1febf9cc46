use Rattle.std.proofs.Common.{length}
use Rattle.stamp_cli.proofs.options.+is_given.Given as goal

abbrev pub decreases-is_given : goal.decreases-is_given
decreases-is_given l = length l.args.now
