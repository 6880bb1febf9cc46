use Rattle.stamp_core.proofs.WordNumbers.{state_is_admitted}
use Rattle.stamp_core.proofs.word.Word.bits.Goals as goal

pub returns-clause-admitted : goal.returns-clause-admitted
returns-clause-admitted c = state_is_admitted c.args.self.now.layout c.args.self.now.bits c.known.ensures
