use Rattle.std.proofs.Common.{ap, refl, ◌∙◌, arith}
use Rattle.stamp_core.specs.LockDecision.{reply_as}
use Rattle.stamped_value.specs.declared.view.Held.TheVariants.{Reading}
use Rattle.stamped_value.proofs.Outcomes.{tried_read}
use Rattle.stamped_value.proofs.Tokens.{calls_held}
use Rattle.stamped_value.proofs.handle.ValueHandle.try_read.Goals as goal

pub invariant_of-result : goal.invariant_of-result
invariant_of-result g c =
    let tried = tried_read _ c.call.ensures.in_range _ _ _ _ (ap reply_as c.in-Stamp.is) c.call.ensures.made in
    record {
      table = c.call.ensures.table;
      stands = c.call.ensures.stands;
      holds = (tried.1 c.if-stamp-eq0.true).0 ∙ c.self.invariant.holds;
    }

pub invariant_of-result-2 : goal.invariant_of-result-2
invariant_of-result-2 g c =
    let tried = tried_read _ c.call.ensures.in_range _ _ _ _ (ap reply_as c.in-Stamp.is) c.call.ensures.made in
    record {
      table = c.call.ensures.table;
      stands = c.call.ensures.stands;
      holds = tried.0 (omega arith);
    }

pub returns-clause-ok : goal.returns-clause-ok
returns-clause-ok g c =
    let is = ap reply_as c.in-Stamp.is in
    let tried = tried_read _ c.call.ensures.in_range _ _ _ _ is c.call.ensures.made in
    rw (← c.self.view_is) (calls_held _ _ _ _ _ c.call.ensures.made c.call.ensures.machine _ is
    (Reading c.in-Stamp.stamp) (tried.0 (omega arith)) refl)
