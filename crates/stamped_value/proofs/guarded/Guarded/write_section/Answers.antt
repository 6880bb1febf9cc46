use Rattle.std.proofs.Common.{ap, ◌∙◌, arith}
use Rattle.stamp_core.specs.LockDecision.{reply_as}
use Rattle.stamped_value.specs.inner.ValueLock.{token}
use Rattle.stamped_value.proofs.Outcomes.{has_written}
use Rattle.stamped_value.proofs.Tokens.{calls_by}
use Rattle.stamped_value.proofs.guarded.Guarded.write_section.Goals as goal

pub returns-then-stamp-eq0-clause-seated : goal.returns-then-stamp-eq0-clause-seated
returns-then-stamp-eq0-clause-seated g c =
    let got = has_written _ c.call.ensures.in_range _ _ _ _ (ap reply_as c.in-Stamp.is) c.call.ensures.made in record {
      table = c.call.ensures.table;
      stands = c.call.ensures.stands;
      holds = (got.1 c.if-stamp-eq0.true).0 ∙ c.requires.seated.holds;
    }

pub write_held-requires-clause-seated : goal.write_held-requires-clause-seated
write_held-requires-clause-seated g c =
    let got = has_written _ c.call.ensures.in_range _ _ _ _ (ap reply_as c.in-Stamp.is) c.call.ensures.made in record {
      table = c.call.ensures.table;
      stands = c.call.ensures.stands;
      holds = (got.0 (omega arith)).0;
    }

pub write_held-requires-clause-last : goal.write_held-requires-clause-last
write_held-requires-clause-last g c =
    let got = has_written _ c.call.ensures.in_range _ _ _ _ (ap reply_as c.in-Stamp.is) c.call.ensures.made in
    (got.0 (omega arith)).1

pub returns-clause-section : goal.returns-clause-section
returns-clause-section g c = record {
  stamp = c.in-Stamp.stamp;
  writer = token c.args.self.now c.call.new.seat.me;
  acquired = calls_by _ _ _ _ _ c.call.ensures.made c.call.ensures.machine _ (ap reply_as c.in-Stamp.is);
  ends = c.write_held.ensures.ends;
}
