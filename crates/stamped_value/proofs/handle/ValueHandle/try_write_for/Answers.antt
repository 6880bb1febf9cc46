use Rattle.std.proofs.Common.{refl}
use Rattle.stamped_value.specs.declared.view.Held.TheVariants.{Writing}
use Rattle.stamped_value.proofs.Timing.{tried_to_write, tried_held}
use Rattle.stamped_value.proofs.handle.ValueHandle.try_write_for.Goals as goal

pub invariant_of-result : goal.invariant_of-result
invariant_of-result g c =
    let ok = c.in-Ok.ensures.ok in record {
      table = c.in-Ok.ensures.table;
      stands = c.in-Ok.ensures.stands;
      holds = ((tried_to_write _ c.in-Ok.ensures.range _ _ _ ok.1).0 ok.0).0;
    }

pub invariant_of-result-in-Err : goal.invariant_of-result-in-Err
invariant_of-result-in-Err g c = record {
  table = c.in-Err.ensures.table;
  stands = c.in-Err.ensures.stands;
  holds = ((tried_to_write _ c.in-Err.ensures.range 0 _ _ c.in-Err.ensures.err).1 refl).0;
}

pub returns-in-Ok-clause-ok : goal.returns-in-Ok-clause-ok
returns-in-Ok-clause-ok g c =
    let ok = c.in-Ok.ensures.ok in
    let parts = c.into_parts-seat.ensures in
    tried_held _ _ _ _ _ parts.lock parts.me (Writing c.in-Ok.stamp)
    ((tried_to_write _ c.in-Ok.ensures.range _ _ _ ok.1).0 ok.0).0 ok.1

pub returns-in-Ok-clause-last : goal.returns-in-Ok-clause-last
returns-in-Ok-clause-last g c =
    let ok = c.in-Ok.ensures.ok in
    ((tried_to_write _ c.in-Ok.ensures.range _ _ _ ok.1).0 ok.0).1
