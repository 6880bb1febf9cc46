use Rattle.std.proofs.Common.{refl, ap, sym, ◌∙◌, arith}
use Rattle.std.specs.Prelude.{is_some}
use Rattle.lent_table.specs.Table.{Hold, value_of}
use Rattle.stamp_core.specs.LockDecision.{reply_as}
use Rattle.stamped_value.specs.ValueLock.{ValueLock}
use Rattle.stamped_value.specs.inner.ValueLock.{token}
use Rattle.stamped_value.proofs.Outcomes.{has_written, released_write}
use Rattle.stamped_value.proofs.Testing.{one_written, ends_tested, ends_unwritten}
use Rattle.stamped_value.proofs.Tokens.{calls_by, last_written, shown_written}
use Rattle.stamped_value.proofs.guarded.Guarded.write_where.Goals as goal

pub returns-then-stamp-eq0-clause-seated : goal.returns-then-stamp-eq0-clause-seated
returns-then-stamp-eq0-clause-seated g c =
    let got = has_written _ c.call.ensures.in_range _ _ _ _ (ap reply_as c.in-Stamp.is) c.call.ensures.made in record {
      table = c.call.ensures.table;
      stands = c.call.ensures.stands;
      holds = (got.1 c.if-stamp-eq0.true).0 ∙ c.requires.seated.holds;
    }

pub value_ref-requires : goal.value_ref-requires
value_ref-requires g c =
    let got = has_written _ c.call.ensures.in_range _ _ _ _ (ap reply_as c.in-Stamp.is) c.call.ensures.made in (
      c.call.ensures.table ∙ sym (ap (λ (l : ValueLock _). l.table) c.self.view_is),
      ap (λ (h : Hold _). is_some (value_of h)) (got.0 (omega arith)).1.1,
    )

pub write_held-requires-clause-call : goal.write_held-requires-clause-call
write_held-requires-clause-call g c x has =
    let got = (has_written _ c.call.ensures.in_range _ _ _ _ (ap reply_as c.in-Stamp.is) c.call.ensures.made).0
    (omega arith) in
    let shown = shown_written _ _ _ got.1.1 c.value_ref.ensures in
    c.requires.then x (record {
      shown = c.value_ref.result;
      shows = one_written _ _ _ shown has;
      says = record { met = rw c.if-holds.true at c.test-holds.ensures };
    })

pub write_held-requires-clause-seated : goal.write_held-requires-clause-seated
write_held-requires-clause-seated g c =
    let got = (has_written _ c.call.ensures.in_range _ _ _ _ (ap reply_as c.in-Stamp.is) c.call.ensures.made).0
    (omega arith) in
    record { table = c.call.ensures.table; stands = c.call.ensures.stands; holds = got.0 }

pub returns-then-holds-clause-section : goal.returns-then-holds-clause-section
returns-then-holds-clause-section g c =
    let is = ap reply_as c.in-Stamp.is in
    let got = (has_written _ c.call.ensures.in_range _ _ _ _ is c.call.ensures.made).0 (omega arith) in
    record {
      stamp = c.in-Stamp.stamp;
      writer = token c.args.self.now c.call.new.seat.me;
      acquired = calls_by _ _ _ _ _ c.call.ensures.made c.call.ensures.machine _ is;
      ends = ends_tested _ _ _ _ c.value_ref.result.now (shown_written _ _ _ got.1.1 c.value_ref.ensures) (record {
        shown = c.value_ref.result;
        shows = refl;
        says = record { met = rw c.if-holds.true at c.test-holds.ensures };
      }) c.write_held.ensures.ends;
    }

pub call-requires-2-clause-may : goal.call-requires-2-clause-may
call-requires-2-clause-may g c =
    ((has_written _ c.call.ensures.in_range _ _ _ _ (ap reply_as c.in-Stamp.is) c.call.ensures.made).0
    (omega arith)).0

pub returns-clause-seated : goal.returns-clause-seated
returns-clause-seated g c =
    let got = (has_written _ c.call.ensures.in_range _ _ _ _ (ap reply_as c.in-Stamp.is) c.call.ensures.made).0
    (omega arith) in record {
      table = c.call-2.ensures.table;
      stands = c.call-2.ensures.stands;
      holds = (released_write _ c.call-2.ensures.in_range _ _ _ _ got.0 c.call-2.ensures.made).1;
    }

pub returns-clause-section : goal.returns-clause-section
returns-clause-section g c =
    let is = ap reply_as c.in-Stamp.is in
    let got = (has_written _ c.call.ensures.in_range _ _ _ _ is c.call.ensures.made).0 (omega arith) in
    let released = released_write _ c.call-2.ensures.in_range _ _ _ _ got.0 c.call-2.ensures.made in
    let has = shown_written _ _ _ got.1.1 c.value_ref.ensures in
    let last = last_written _ _ _ _ got.1.1 got.1.2 has in record {
      stamp = c.in-Stamp.stamp;
      writer = token c.args.self.now c.call.new.seat.me;
      acquired = calls_by _ _ _ _ _ c.call.ensures.made c.call.ensures.machine _ is;
      ends = ends_unwritten _ _ _ _ c.value_ref.result.now has (record {
        shown = c.value_ref.result;
        shows = refl;
        says = record { met = rw c.if-holds.false at c.test-holds.ensures };
      }) last (calls_by _ _ _ _ _ c.call-2.ensures.made c.call-2.ensures.machine _ released.0) released.2;
    }
