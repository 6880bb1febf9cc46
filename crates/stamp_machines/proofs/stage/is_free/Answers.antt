use Rattle.stamp_machines.proofs.WordTests.{writers_told}
use Rattle.stamp_machines.proofs.stage.is_free.Goals as goal

pub returns : goal.returns
returns c = rw c.word.ensures at
    (writers_told c.args.limits c.word.result c.is_writing.result c.layout.ensures.in_range
    (rw c.word.ensures c.requires) c.is_writing.ensures)
