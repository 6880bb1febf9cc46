use Rattle.stamp_cli.proofs.Migrating.{accepted_migrates}
use Rattle.stamp_cli.proofs.laws.accepted_migrates.Goals as goal

pub returns : goal.returns
returns c = accepted_migrates
