use Rattle.std.proofs.Common.{rules}
use Rattle.stamped_watch.proofs.Plain.{no_event_of}
use Rattle.stamped_watch.proofs.event_bytes.event_of.Goals as goal

pub returns-else-kind-eq48 : goal.returns-else-kind-eq48
returns-else-kind-eq48 c = no_event_of c.args.kind (search rules) (search rules) (search rules)
