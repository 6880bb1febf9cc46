use Rattle.stamp_cli.proofs.Readings.{reading_given, given_reading}
use Rattle.stamp_cli.proofs.laws.one_reading.Goals as goal

pub returns : goal.returns
returns c t args items = (given_reading t args items, reading_given t args items)
