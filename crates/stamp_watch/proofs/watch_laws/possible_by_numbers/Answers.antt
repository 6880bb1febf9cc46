use Rattle.stamp_watch.proofs.OtherReply.{possible_by_numbers}
use Rattle.stamp_watch.proofs.watch_laws.possible_by_numbers.Goals as goal

pub returns : goal.returns
returns c = possible_by_numbers
