use Rattle.std.proofs.Common.{◌≡◌, ap, ◌∙◌}
use Rattle.stamped_c.specs.Codes.{decision_in_c}
use Rattle.stamped_c.specs.Checks.{IsWordUnder}
use Rattle.stamped_c.specs.Answers.{IsDecidedOn}
use Rattle.stamped_c.proofs.Steps.{at_error, after}
use Rattle.stamped_c.proofs.decided.decided_under.Goals as goal

pub returns-in-Ok : goal.returns-in-Ok
returns-in-Ok g c =
    let a = c.args in
    let y = c.decided_on.ensures in
    let e : c.in-Ok.word.bits ≡ a.number = ap (λ w. w.bits) c.in-Ok.ensures.0 in
    after (IsWordUnder a.limits a.number) (λ word. IsDecidedOn a.limits word a.code a.stamp) _ _ _ c.in-Ok.ensures
    (y.0, y.1, y.2 ∙ ap (λ n. decision_in_c n y.0) e)

pub returns-in-Err : goal.returns-in-Err
returns-in-Err g c =
    let a = c.args in
    at_error (IsWordUnder a.limits a.number) (λ word. IsDecidedOn a.limits word a.code a.stamp) _ _ _
    c.in-Err.ensures c.error.ensures
