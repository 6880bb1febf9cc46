use Rattle.stamp_picture.proofs.OnePicture.{one_picture}
use Rattle.stamp_picture.proofs.picture_laws.one_picture.Goals as goal

pub returns : goal.returns
returns c = one_picture
