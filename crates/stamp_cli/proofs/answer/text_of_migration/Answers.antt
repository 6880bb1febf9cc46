use Rattle.std.proofs.Common.{refl}
use Rattle.stamp_cli.proofs.answer.text_of_migration.Goals as goal

pub returns-in-Err-clause-answer : goal.returns-in-Err-clause-answer
returns-in-Err-clause-answer c = λ _.
    rw c.in_ok-read_history.ensures.read
    (record { entry = c.in-Err.bad.entry; foreign = c.in-Err.ensures.bad; named = refl })
