use Rattle.std.proofs.Common.{rules, arith}
use Rattle.stamped_value.proofs.Timing.{free_has_nothing, tried_first, tried_again, tried_in_vain}
use Rattle.stamped_value.proofs.guarded.Guarded.try_for.Goals as goal

pub returns-then-stamp-ne0-clause-ok : goal.returns-then-stamp-ne0-clause-ok
returns-then-stamp-ne0-clause-ok g c =
    let nothing = free_has_nothing _ _ c.requires.seated.stands c.requires.seated.holds in
    (omega arith, tried_first _ _ _ _ _ nothing c.try_call-stamp.ensures.made)

pub returns-in_err-start-clause-err : goal.returns-in_err-start-clause-err
returns-in_err-start-clause-err g c =
    let nothing = free_has_nothing _ _ c.requires.seated.stands c.requires.seated.holds in
    let tried = rw c.if-stamp-ne0.false at (tried_first _ _ _ _ _ nothing c.try_call-stamp.ensures.made) in
    search (rules, tried)

pub loop-init : goal.loop-init
loop-init g c =
    let nothing = free_has_nothing _ _ c.requires.seated.stands c.requires.seated.holds in record {
      table = c.try_call-stamp.ensures.table;
      stands = c.try_call-stamp.ensures.stands;
      tried = rw c.if-stamp-ne0.false at (tried_first _ _ _ _ _ nothing c.try_call-stamp.ensures.made);
    }

pub try_call-stamp-requires-in-loop-clause-seated : goal.try_call-stamp-requires-in-loop-clause-seated
try_call-stamp-requires-in-loop-clause-seated g c = record {
  table = c.loop.invariant.table;
  stands = c.loop.invariant.stands;
  holds = (tried_in_vain _ c.try_call-stamp.ensures.range _ _ _ c.requires.call c.loop.invariant.tried).0;
}

pub returns-then-stamp-ne0-2-clause-ok : goal.returns-then-stamp-ne0-2-clause-ok
returns-then-stamp-ne0-2-clause-ok g c =
    let tried = c.loop.invariant.tried in
    let nothing = tried_in_vain _ c.try_call-stamp.ensures.range _ _ _ c.requires.call tried in
    (omega arith, tried_again _ _ _ _ _ _ tried nothing c.try_call-stamp-in-loop.ensures.made)

pub loop-preserved : goal.loop-preserved
loop-preserved g c =
    let tried = c.loop.invariant.tried in
    let nothing = tried_in_vain _ c.try_call-stamp.ensures.range _ _ _ c.requires.call tried in record {
      table = c.try_call-stamp-in-loop.ensures.table;
      stands = c.try_call-stamp-in-loop.ensures.stands;
      tried = rw c.if-stamp-ne0-2.false at
          (tried_again _ _ _ _ _ _ tried nothing c.try_call-stamp-in-loop.ensures.made);
    }
