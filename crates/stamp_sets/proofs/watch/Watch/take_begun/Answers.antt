use Rattle.std.proofs.Common.{◌∙◌, sym, arith, Some}
use Rattle.stamp_runs.specs.declared.event.Event.TheVariants.{Begins}
use Rattle.stamp_sets.specs.Told.{open_at}
use Rattle.stamp_sets.proofs.Pairing.{asked, begins_is, first_free, lock_goes_on, lock_some, record_goes_on}
use Rattle.stamp_sets.proofs.Pairing.{record_some, second_free, sets_some}
use Rattle.stamp_sets.proofs.Traces.{begun_trace}
use Rattle.stamp_sets.proofs.watch.Watch.take_begun.Goals as goal

pub begins-requires-clause-idle : goal.begins-requires-clause-idle
begins-requires-clause-idle c = first_free (open_at c.args.self.now.lock.table.items c.args.lane)
    (open_at c.args.self.now.record.table.items c.args.lane) c.requires.free

pub begins-requires-clause-some : goal.begins-requires-clause-some
begins-requires-clause-some c = lock_some c.args.self.now c.requires.watched

pub begins-requires-else-is_lock_call-clause-idle : goal.begins-requires-else-is_lock_call-clause-idle
begins-requires-else-is_lock_call-clause-idle c = second_free (open_at c.args.self.now.lock.table.items c.args.lane)
    (open_at c.args.self.now.record.table.items c.args.lane) c.requires.free

pub begins-requires-else-is_lock_call-clause-some : goal.begins-requires-else-is_lock_call-clause-some
begins-requires-else-is_lock_call-clause-some c = record_some c.args.self.now c.requires.watched

pub returns-in_ok-go_on-clause-goes : goal.returns-in_ok-go_on-clause-goes
returns-in_ok-go_on-clause-goes c = let some = lock_some c.args.self.now c.requires.watched in
    lock_goes_on c.args.self.now c.requires.watched (Begins c.args.lane (asked c.args.begun)) c.args.begun
    (Some c.args.begun) c.args.self.now.last (begins_is c.args.self.now c.args.lane c.args.begun c.requires.free)
    (omega arith) c.begins.new.self c.go_on.new.self c.events-number.result c.events-number.ensures
    (sym c.is_lock_call.ensures ∙ c.if-is_lock_call.true) c.begins.ensures.object
    (λ past keeps. c.begins.ensures.keeps past c.args.self.now.last keeps) c.in_ok-go_on.ensures.goes_on.told
    (λ past traced. begun_trace past c.args.lane c.events-number.result c.args.self.now.lock c.begins.new.self
    c.args.self.now.lock_trace c.go_on.new.self c.begins.ensures.object traced c.args.begun c.requires.lane
    (first_free (open_at c.args.self.now.lock.table.items c.args.lane)
    (open_at c.args.self.now.record.table.items c.args.lane) c.requires.free) c.in_ok-go_on.ensures.goes_on
    c.begins.ensures.begun c.begins.ensures.table)
    (sets_some some.past some.last c.args.self.now.lock some.keeps c.begins.new.self.table.items c.args.lane
    c.args.begun c.requires.lane c.begins.ensures.table)

pub returns-in_ok-go_on-2-clause-goes : goal.returns-in_ok-go_on-2-clause-goes
returns-in_ok-go_on-2-clause-goes c = let some = record_some c.args.self.now c.requires.watched in
    record_goes_on c.args.self.now c.requires.watched (Begins c.args.lane (asked c.args.begun)) c.args.begun
    (Some c.args.begun) c.args.self.now.last (begins_is c.args.self.now c.args.lane c.args.begun c.requires.free)
    (omega arith) c.begins-else-is_lock_call.new.self c.go_on-else-is_lock_call.new.self c.events-number.result
    c.events-number.ensures (sym c.is_lock_call.ensures ∙ c.if-is_lock_call.false)
    c.begins-else-is_lock_call.ensures.object
    (λ past keeps. c.begins-else-is_lock_call.ensures.keeps past c.args.self.now.last keeps)
    c.in_ok-go_on-2.ensures.goes_on.told
    (λ past traced. begun_trace past c.args.lane c.events-number.result c.args.self.now.record
    c.begins-else-is_lock_call.new.self c.args.self.now.record_trace c.go_on-else-is_lock_call.new.self
    c.begins-else-is_lock_call.ensures.object traced c.args.begun c.requires.lane
    (second_free (open_at c.args.self.now.lock.table.items c.args.lane)
    (open_at c.args.self.now.record.table.items c.args.lane) c.requires.free) c.in_ok-go_on-2.ensures.goes_on
    c.begins-else-is_lock_call.ensures.begun c.begins-else-is_lock_call.ensures.table)
    (sets_some some.past some.last c.args.self.now.record some.keeps c.begins-else-is_lock_call.new.self.table.items
    c.args.lane c.args.begun c.requires.lane c.begins-else-is_lock_call.ensures.table)
