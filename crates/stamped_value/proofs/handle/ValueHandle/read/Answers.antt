use Rattle.std.proofs.Common.{ap, refl}
use Rattle.stamp_core.specs.LockDecision.{reply_as}
use Rattle.stamped_value.specs.declared.view.Held.TheVariants.{Reading}
use Rattle.stamped_value.proofs.Outcomes.{has_read}
use Rattle.stamped_value.proofs.Tokens.{calls_held}
use Rattle.stamped_value.proofs.handle.ValueHandle.read.Goals as goal

pub invariant_of-result : goal.invariant_of-result
invariant_of-result g c = record {
  table = c.call.ensures.table;
  stands = c.call.ensures.stands;
  holds = has_read _ c.call.ensures.in_range _ _ _ _ (ap reply_as c.in-Stamp.is) c.call.ensures.made;
}

pub returns : goal.returns
returns g c =
    let is = ap reply_as c.in-Stamp.is in
    rw (← c.self.view_is) (calls_held _ _ _ _ _ c.call.ensures.made c.call.ensures.machine _ is
    (Reading c.in-Stamp.stamp) (has_read _ c.call.ensures.in_range _ _ _ _ is c.call.ensures.made) refl)
