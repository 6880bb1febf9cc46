use Rattle.std.proofs.Common.{refl, ap, sym, ◌∙◌}
use Rattle.stamped_value.specs.ValueLock.{ValueLock}
use Rattle.stamped_value.proofs.Outcomes.{released_write}
use Rattle.stamped_value.proofs.Tokens.{calls_by, last_written}
use Rattle.stamped_value.proofs.guarded.Guarded.write_held.Goals as goal

pub value_mut-requires : goal.value_mut-requires
value_mut-requires g c =
    let last = c.requires.last in
    (c.requires.seated.table ∙ sym (ap (λ (l : ValueLock _). l.table) c.self.view_is), (last.0, last.1))

pub returns-clause-seated : goal.returns-clause-seated
returns-clause-seated g c = record {
  table = c.call.ensures.table;
  stands = c.call.ensures.stands;
  holds = (released_write _ c.call.ensures.in_range _ _ _ _ c.requires.seated.holds c.call.ensures.made).1;
}

pub returns-clause-ends : goal.returns-clause-ends
returns-clause-ends g c =
    let had = c.requires.last in
    let released = released_write _ c.call.ensures.in_range _ _ _ _ c.requires.seated.holds c.call.ensures.made in
    let p = c.value_mut.result in
    let left = c.f-answer.new.arg2 in record {
      found = p.now;
      has = c.value_mut.ensures.value;
      last = last_written _ _ _ _ had.1 had.2 c.value_mut.ensures.value;
      left = left;
      written = record {
        shown = p;
        shows = refl;
        left = record { ref_ptr = p.ref_ptr; ghost_name = p.ghost_name; now = left };
        met = c.f-answer.ensures;
        leaves = refl;
      };
      released = calls_by _ _ _ _ _ c.call.ensures.made c.call.ensures.machine _ released.0;
      leaves = last_written _ _ _ _ released.2.1 released.2.2 refl;
    }
