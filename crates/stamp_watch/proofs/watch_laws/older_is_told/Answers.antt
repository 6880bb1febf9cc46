use Rattle.stamp_watch.proofs.LosingNothing.{older_is_told}
use Rattle.stamp_watch.proofs.watch_laws.older_is_told.Goals as goal

pub returns : goal.returns
returns c = older_is_told
