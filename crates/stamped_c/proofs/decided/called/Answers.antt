use Rattle.std.proofs.Common.{ap, inr, ◌∙◌}
use Rattle.std.specs.Prelude.{Ok}
use Rattle.stamped_c.specs.Codes.{made_in_c}
use Rattle.stamped_c.proofs.decided.called.Goals as goal

pub returns : goal.returns
returns c = λ code stamp e. (
  Ok c.decide_lock.result,
  inr (_, e, c.decide_lock.ensures.decides),
  c.made.ensures ∙ ap (λ number. made_in_c number c.decide_lock.result) c.bits.ensures.bits,
)
