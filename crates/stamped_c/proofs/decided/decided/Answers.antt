use Rattle.stamped_c.specs.Checks.{IsLayoutOf}
use Rattle.stamped_c.specs.Answers.{IsDecidedIn}
use Rattle.stamped_c.proofs.Steps.{at_error}
use Rattle.stamped_c.proofs.decided.decided.Goals as goal

pub returns-in-Err : goal.returns-in-Err
returns-in-Err c =
    let a = c.args in
    at_error (IsLayoutOf a.given.layout) (λ layout. IsDecidedIn layout a.given a.number a.code a.stamp) _ _ _
    c.in-Err.ensures c.error.ensures
