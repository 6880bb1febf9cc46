use Rattle.std.proofs.Common.{ap, rules}
use Rattle.stamped_value.specs.ValueLock.{ValueToken}
use Rattle.stamped_value.proofs.Validating.{asks_is_last}
use Rattle.stamped_value.proofs.handle.ValueHandle.is_last.Goals as goal

pub returns : goal.returns
returns g c =
    let me = ap (λ (t : ValueToken g.row.T.Denot). t.me) c.self.view_is in
    let answer = c.ask_is_last.ensures.answer in
    asks_is_last _ _ _ _ _ c.ask_is_last.ensures.range
    (record { lock = search rules; once = search rules; begins = search rules })
    (rw me at answer.1) answer.2
