use Rattle.stamp_picture.specs.Sheet.{bar_title}
use Rattle.stamp_picture.proofs.sheet.bar_title.Goals as goal

pub returns : goal.returns
unfolding bar_title
returns c = c.format.ensures.ok
