use Rattle.stamped_value.proofs.lends.ReadGuardDeref.TheImpl.Goals as goal

pub deref-tells : goal.deref-tells
deref-tells g c = (c.ensures.value, c.ensures.last)
