use Rattle.std.proofs.Common.{◌∙◌, sym, None}
use Rattle.stamp_runs.specs.declared.event.Event.TheVariants.{Returns}
use Rattle.stamp_sets.specs.declared.ending.Ending.TheVariants as ending
use Rattle.stamp_sets.specs.SmallCall.{reply_of}
use Rattle.stamp_sets.specs.Told.{IsTold, open_at}
use Rattle.stamp_sets.proofs.Pairing.{in_lock, in_record, lock_goes_on, record_goes_on, returns_is, sets_none}
use Rattle.stamp_sets.proofs.Traces.{returned_trace}
use Rattle.stamp_sets.proofs.watch.Watch.take_returned.Goals as goal

pub returns-in_ok-done-clause-goes : goal.returns-in_ok-done-clause-goes
returns-in_ok-done-clause-goes c done reply place ends due = lock_goes_on c.args.self.now c.requires.watched
    (Returns c.args.lane (reply_of reply)) c.args.begun None place
    (returns_is c.args.self.now c.args.lane c.args.begun (reply_of reply) c.requires.is_open) due c.returns.new.self
    c.returns.new.trace c.events-number.result c.events-number.ensures
    (sym c.is_lock_call.ensures ∙ c.if-is_lock_call.true) c.in_ok-done.ensures.object
    (λ past keeps. c.in_ok-done.ensures.keeps done past c.args.self.now.last place reply keeps told due)
    (c.in_ok-done.ensures.noted done).returns.goes_on.told
    (λ past traced. returned_trace past c.args.lane c.events-number.result c.args.self.now.lock c.returns.new.self
    c.args.self.now.lock_trace c.returns.new.trace c.in_ok-done.ensures.object traced reply place told
    (c.in_ok-done.ensures.noted done) (c.in_ok-done.ensures.table done))
    (sets_none c.args.self.now.lock c.returns.new.self.table.items c.args.lane (c.in_ok-done.ensures.table done))
  where
    told : IsTold (open_at c.args.self.now.lock.table.items) c.args.lane (ending.Returns reply place)
    told = record {
      begun = c.args.begun;
      is_open = in_lock c.args.self.now c.requires.watched c.args.lane c.args.begun c.requires.is_open
          (sym c.is_lock_call.ensures ∙ c.if-is_lock_call.true);
      ends = ends;
    }

pub returns-in_ok-done-2-clause-goes : goal.returns-in_ok-done-2-clause-goes
returns-in_ok-done-2-clause-goes c done reply place ends due = record_goes_on c.args.self.now c.requires.watched
    (Returns c.args.lane (reply_of reply)) c.args.begun None place
    (returns_is c.args.self.now c.args.lane c.args.begun (reply_of reply) c.requires.is_open) due
    c.returns-else-is_lock_call.new.self c.returns-else-is_lock_call.new.trace c.events-number.result
    c.events-number.ensures (sym c.is_lock_call.ensures ∙ c.if-is_lock_call.false) c.in_ok-done-2.ensures.object
    (λ past keeps. c.in_ok-done-2.ensures.keeps done past c.args.self.now.last place reply keeps told due)
    (c.in_ok-done-2.ensures.noted done).returns.goes_on.told
    (λ past traced. returned_trace past c.args.lane c.events-number.result c.args.self.now.record
    c.returns-else-is_lock_call.new.self c.args.self.now.record_trace c.returns-else-is_lock_call.new.trace
    c.in_ok-done-2.ensures.object traced reply place told (c.in_ok-done-2.ensures.noted done)
    (c.in_ok-done-2.ensures.table done)) (sets_none c.args.self.now.record
    c.returns-else-is_lock_call.new.self.table.items c.args.lane (c.in_ok-done-2.ensures.table done))
  where
    told : IsTold (open_at c.args.self.now.record.table.items) c.args.lane (ending.Returns reply place)
    told = record {
      begun = c.args.begun;
      is_open = in_record c.args.self.now c.requires.watched c.args.lane c.args.begun c.requires.is_open
          (sym c.is_lock_call.ensures ∙ c.if-is_lock_call.false);
      ends = ends;
    }
