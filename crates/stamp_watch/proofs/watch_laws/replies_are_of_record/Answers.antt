use Rattle.stamp_watch.proofs.Foreign.{replies_are_of_record}
use Rattle.stamp_watch.proofs.watch_laws.replies_are_of_record.Goals as goal

pub returns : goal.returns
returns c = replies_are_of_record
