use Rattle.stamp_picture.proofs.OnePicture.{crowded_is_counted}
use Rattle.stamp_picture.proofs.picture_laws.crowded_is_counted.Goals as goal

pub returns : goal.returns
returns c = crowded_is_counted
