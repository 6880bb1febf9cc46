use Rattle.stamp_cli.proofs.Migrating.{migration_keeps_lines}
use Rattle.stamp_cli.proofs.laws.migration_keeps_lines.Goals as goal

pub returns : goal.returns
returns c = migration_keeps_lines
