use Rattle.stamp_picture.proofs.Inside.{window_is_kept}
use Rattle.stamp_picture.proofs.picture_laws.window_is_kept.Goals as goal

pub returns : goal.returns
returns c = window_is_kept
