use Rattle.stamp_core.proofs.StampTests.{tests_are_exact}
use Rattle.stamp_core.proofs.laws.tests_are_exact.Goals as goal

pub returns : goal.returns
returns c = tests_are_exact
