use Rattle.std.proofs.Common.{◌∙◌, ap, sym, arith, None}
use Rattle.stamp_runs.specs.declared.event.Event.TheVariants.{Withdraws}
use Rattle.stamp_sets.proofs.Pairing.{in_lock, in_record, lane_within, lock_goes_on, record_goes_on, sets_none}
use Rattle.stamp_sets.proofs.Pairing.{withdraws_is}
use Rattle.stamp_sets.proofs.Traces.{withdrawn_trace}
use Rattle.stamp_sets.proofs.watch.Watch.take_withdrawn.Goals as goal

pub withdraws-requires-clause-lane : goal.withdraws-requires-clause-lane
withdraws-requires-clause-lane c = lane_within c.args.self.now c.requires.watched c.args.lane c.args.begun
    c.requires.is_open

pub withdraws-requires-clause-told : goal.withdraws-requires-clause-told
withdraws-requires-clause-told c = record {
  begun = c.args.begun;
  is_open = in_lock c.args.self.now c.requires.watched c.args.lane c.args.begun c.requires.is_open
      (sym c.is_lock_call.ensures ∙ c.if-is_lock_call.true);
  ends = c.requires.ends;
}

pub withdraws-requires-else-is_lock_call-clause-lane : goal.withdraws-requires-else-is_lock_call-clause-lane
withdraws-requires-else-is_lock_call-clause-lane c = lane_within c.args.self.now c.requires.watched c.args.lane
    c.args.begun c.requires.is_open

pub withdraws-requires-else-is_lock_call-clause-told : goal.withdraws-requires-else-is_lock_call-clause-told
withdraws-requires-else-is_lock_call-clause-told c = record {
  begun = c.args.begun;
  is_open = in_record c.args.self.now c.requires.watched c.args.lane c.args.begun c.requires.is_open
      (sym c.is_lock_call.ensures ∙ c.if-is_lock_call.false);
  ends = c.requires.ends;
}

pub returns-in_ok-go_on-clause-goes : goal.returns-in_ok-go_on-clause-goes
returns-in_ok-go_on-clause-goes c = lock_goes_on c.args.self.now c.requires.watched (Withdraws c.args.lane)
    c.args.begun None c.args.self.now.last (withdraws_is c.args.self.now c.args.lane c.args.begun c.requires.is_open)
    (omega arith) c.withdraws.new.self c.go_on.new.self c.events-number.result c.events-number.ensures
    (sym c.is_lock_call.ensures ∙ c.if-is_lock_call.true) c.withdraws.ensures.object
    (λ past keeps. c.withdraws.ensures.keeps past c.args.self.now.last keeps) c.in_ok-go_on.ensures.goes_on.told
    (λ past traced. withdrawn_trace past c.args.lane c.events-number.result c.args.self.now.lock c.withdraws.new.self
    c.args.self.now.lock_trace c.go_on.new.self c.withdraws.ensures.object traced (record {
      begun = c.args.begun;
      is_open = in_lock c.args.self.now c.requires.watched c.args.lane c.args.begun c.requires.is_open
          (sym c.is_lock_call.ensures ∙ c.if-is_lock_call.true);
      ends = c.requires.ends;
    }) c.in_ok-go_on.ensures.goes_on (ap (λ xs. xs.items) c.withdraws.ensures.same) c.withdraws.ensures.table)
    (sets_none c.args.self.now.lock c.withdraws.new.self.table.items c.args.lane c.withdraws.ensures.table)

pub returns-in_ok-go_on-2-clause-goes : goal.returns-in_ok-go_on-2-clause-goes
returns-in_ok-go_on-2-clause-goes c = record_goes_on c.args.self.now c.requires.watched (Withdraws c.args.lane)
    c.args.begun None c.args.self.now.last (withdraws_is c.args.self.now c.args.lane c.args.begun c.requires.is_open)
    (omega arith) c.withdraws-else-is_lock_call.new.self c.go_on-else-is_lock_call.new.self c.events-number.result
    c.events-number.ensures (sym c.is_lock_call.ensures ∙ c.if-is_lock_call.false)
    c.withdraws-else-is_lock_call.ensures.object
    (λ past keeps. c.withdraws-else-is_lock_call.ensures.keeps past c.args.self.now.last keeps)
    c.in_ok-go_on-2.ensures.goes_on.told
    (λ past traced. withdrawn_trace past c.args.lane c.events-number.result c.args.self.now.record
    c.withdraws-else-is_lock_call.new.self c.args.self.now.record_trace c.go_on-else-is_lock_call.new.self
    c.withdraws-else-is_lock_call.ensures.object traced (record {
      begun = c.args.begun;
      is_open = in_record c.args.self.now c.requires.watched c.args.lane c.args.begun c.requires.is_open
          (sym c.is_lock_call.ensures ∙ c.if-is_lock_call.false);
      ends = c.requires.ends;
    }) c.in_ok-go_on-2.ensures.goes_on (ap (λ xs. xs.items) c.withdraws-else-is_lock_call.ensures.same)
    c.withdraws-else-is_lock_call.ensures.table)
    (sets_none c.args.self.now.record c.withdraws-else-is_lock_call.new.self.table.items c.args.lane
    c.withdraws-else-is_lock_call.ensures.table)
