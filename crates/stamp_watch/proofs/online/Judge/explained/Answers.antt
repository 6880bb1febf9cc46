use Rattle.stamp_watch.proofs.SoFar.{explained_is, waits_is}
use Rattle.stamp_watch.proofs.online.Judge.explained.Goals as goal

pub returns-clause-explained : goal.returns-clause-explained
returns-clause-explained c limits most ahead run is =
    explained_is limits most ahead run c.args.self.now is c.requires.none

pub returns-clause-waits : goal.returns-clause-waits
returns-clause-waits c limits most ahead run is = waits_is limits most ahead run c.args.self.now is c.requires.none
