use Rattle.std.proofs.Common.{refl}
use Rattle.stamp_watch.proofs.CountingWaiting.{counted_first}
use Rattle.stamp_watch.proofs.waiting.Waiting.new.Goals as goal

pub returns-clause-counted : goal.returns-clause-counted
returns-clause-counted c = counted_first _ c.new.ensures.items refl
