use Rattle.std.proofs.lemmas.Bool.{false≢true}
use Rattle.stamp_watch.proofs.Overtaken.{over_exactly}
use Rattle.stamp_watch.proofs.overtaking.Overtaking.is_over.Goals as goal

pub returns-in_default : goal.returns-in_default
returns-in_default c past since tracks = (
  (λ is. absurd (false≢true is)),
  λ over. absurd (c.in_default.not-Over ((over_exactly past since c.args.self.now tracks).1 over)),
)
