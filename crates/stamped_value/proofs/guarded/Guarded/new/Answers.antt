use Rattle.std.proofs.Common.{sym}
use Rattle.stamp_threads.proofs.NewLock.{opening_number}
use Rattle.stamped_value.proofs.Opening.{value_opens}
use Rattle.stamped_value.proofs.guarded.Guarded.new.Goals as goal

pub new-requires : goal.new-requires
new-requires g c = rw c.of.ensures (value_opens c.args.limits _ _ (opening_number c.args.limits _ _
    (c.opening_in.ensures.represented c.args.limits (sym c.layout.ensures.layout)) c.bits-opening.ensures.bits))
