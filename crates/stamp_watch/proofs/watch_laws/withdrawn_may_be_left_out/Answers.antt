use Rattle.stamp_watch.proofs.LeavingOut.{withdrawn_may_be_left_out}
use Rattle.stamp_watch.proofs.watch_laws.withdrawn_may_be_left_out.Goals as goal

pub returns : goal.returns
returns c = withdrawn_may_be_left_out
