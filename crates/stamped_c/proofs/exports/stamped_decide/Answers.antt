use Rattle.stamped_c.proofs.Telling.{told}
use Rattle.stamped_c.proofs.exports.stamped_decide.Goals as goal

pub returns : goal.returns
returns c =
    let d = c.decided.ensures in
    let a = c.args in
    (d.0, d.1, d.2, rw d.2 (told a.limits a.word a.call a.stamp d.0 d.1))
