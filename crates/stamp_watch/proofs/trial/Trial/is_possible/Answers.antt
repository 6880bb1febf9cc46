use Rattle.std.proofs.Common.{◌+◌}
use Rattle.std.proofs.lemmas.Bool.{false≢true}
use Rattle.stamp_watch.proofs.Trials.{explained_tried, tried_too_many}
use Rattle.stamp_watch.proofs.trial.Trial.is_possible.Goals as goal

pub returns-in-Unexplained : goal.returns-in-Unexplained
returns-in-Unexplained c limits is =
    let found = rw c.in-Unexplained.is at (c.in_ok-outcome.ensures limits is) in (
      (λ no. absurd (false≢true no)),
      (λ explained. absurd (found.2 (explained_tried limits c.args.self.now is c.args.reply explained))),
    )

pub returns-in-TooMany : goal.returns-in-TooMany
returns-in-TooMany c limits is =
    let found = rw c.in-TooMany.is at (c.in_ok-outcome.ensures limits is) in (
      c.args.self.now.first + c.in-TooMany.field-0,
      tried_too_many limits c.args.self.now is c.args.reply c.in-TooMany.field-0 found.2,
    )
