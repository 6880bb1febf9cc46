use Rattle.stamp_picture.proofs.Columns.{is_narrow}
use Rattle.stamp_picture.proofs.frames.right_of.Goals as goal

pub returns-clause-few : goal.returns-clause-few
returns-clause-few c = rw c.x_of.ensures.is (is_narrow c.args.positions.now c.requires)
