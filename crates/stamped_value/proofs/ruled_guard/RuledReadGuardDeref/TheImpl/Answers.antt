use Rattle.stamped_value.proofs.ruled_guard.RuledReadGuardDeref.TheImpl.Goals as goal

pub deref-tells : goal.deref-tells
deref-tells g c = (c.ensures.rule, c.ensures.value, c.ensures.last)
