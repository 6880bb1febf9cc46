use Rattle.stamped_c.specs.Checks.{AreLimitsIn}
use Rattle.stamped_c.specs.Answers.{IsDecidedUnder}
use Rattle.stamped_c.proofs.Steps.{at_error, after}
use Rattle.stamped_c.proofs.decided.decided_in.Goals as goal

pub returns-in-Ok : goal.returns-in-Ok
returns-in-Ok g c =
    let a = c.args in
    after (AreLimitsIn a.layout a.given.readers a.given.versions)
    (λ limits. IsDecidedUnder limits a.number a.code a.stamp) _ _ _ c.in-Ok.ensures c.decided_under.ensures

pub returns-in-Err : goal.returns-in-Err
returns-in-Err g c =
    let a = c.args in
    at_error (AreLimitsIn a.layout a.given.readers a.given.versions)
    (λ limits. IsDecidedUnder limits a.number a.code a.stamp) _ _ _ c.in-Err.ensures c.error.ensures
