use Rattle.std.proofs.Common.{refl, ap, sym, ◌∙◌}
use Rattle.std.specs.Prelude.{is_some}
use Rattle.lent_table.specs.Table.{Hold, value_of}
use Rattle.stamp_core.specs.LockDecision.{reply_as}
use Rattle.stamped_value.specs.ValueLock.{ValueLock}
use Rattle.stamped_value.specs.inner.ValueLock.{token}
use Rattle.stamped_value.proofs.Outcomes.{has_read, released_read}
use Rattle.stamped_value.proofs.OfStamp.{still_of_stamp, reader_of_stamp}
use Rattle.stamped_value.proofs.Tokens.{calls_by, reads_last, is_last, shown_read}
use Rattle.stamped_value.proofs.guarded.Guarded.read_section.Goals as goal

pub value_ref-requires : goal.value_ref-requires
value_ref-requires g c =
    let held = has_read _ c.call.ensures.in_range _ _ _ _ (ap reply_as c.in-Stamp.is) c.call.ensures.made in
    let r = reads_last _ _ c.call.ensures.stands _ held in (
      c.call.ensures.table ∙ sym (ap (λ (l : ValueLock _). l.table) c.self.view_is),
      ap (λ (h : Hold _). is_some (value_of h)) r.1,
    )

pub release_read-requires-clause-held : goal.release_read-requires-clause-held
release_read-requires-clause-held g c =
    has_read _ c.call.ensures.in_range _ _ _ _ (ap reply_as c.in-Stamp.is) c.call.ensures.made

pub returns-clause-seated : goal.returns-clause-seated
returns-clause-seated g c =
    let held = has_read _ c.call.ensures.in_range _ _ _ _ (ap reply_as c.in-Stamp.is) c.call.ensures.made in record {
      table = c.release_read.ensures.table;
      stands = c.release_read.ensures.stands;
      holds = (released_read _ c.release_read.ensures.in_range _ _ _ _ held c.release_read.ensures.made).1;
    }

pub returns-clause-section : goal.returns-clause-section
returns-clause-section g c =
    let is = ap reply_as c.in-Stamp.is in
    let held = has_read _ c.call.ensures.in_range _ _ _ _ is c.call.ensures.made in
    let r = reads_last _ _ c.call.ensures.stands _ held in
    let has = shown_read _ _ _ r.1 c.value_ref.ensures in
    let released = released_read _ c.release_read.ensures.in_range _ _ _ _ held c.release_read.ensures.made in (
      record {
        stamp = c.in-Stamp.stamp;
        reader = token c.args.self.now c.call.new.seat.me;
        begins = record {
          acquired = calls_by _ _ _ _ _ c.call.ensures.made c.call.ensures.machine _ is;
          value = c.value_ref.result.now;
          has = has;
          last = is_last _ _ c.call.ensures.stands _ held _ has;
          read = (c.value_ref.result, c.f-answer.ensures, refl);
        };
        released = calls_by _ _ _ _ _ c.release_read.ensures.made c.release_read.ensures.machine _ released.0;
      },
      refl,
      still_of_stamp _ _ _ _ _ released.2
          (reader_of_stamp _ c.call.ensures.in_range _ _ _ c.call.ensures.stands held has),
    )
