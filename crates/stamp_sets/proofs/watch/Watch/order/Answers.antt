use Rattle.std.proofs.Common.{ℕ, ◌∙◌, ap, length, List}
use Rattle.stamp_core.specs.Call.{is_lock_call}
use Rattle.stamp_runs.specs.Own.{own_events}
use Rattle.stamp_sets.specs.Watch.{is_record_call}
use Rattle.stamp_sets.proofs.Numbering.{many_numbers}
use Rattle.stamp_sets.proofs.Ordering.{all_events, both_order}
use Rattle.stamp_sets.proofs.watch.Watch.order.Goals as goal

pub returns-clause-order : goal.returns-clause-order
returns-clause-order c past is = both_order past c.args.self.now is c.events-events.result c.in-Some.lock.items
    c.in-Some-2.record.items c.in_ok-order.order.items
    (all_events past c.args.self.now is c.events-events.result c.events-events.ensures)
    ((rw c.in-Some.is at c.in_ok-lock.ensures.order) (own_events is_lock_call past) is.lock.keeps
    (ap (λ (ns : List ℕ). length ns) is.lock.numbers ∙ many_numbers is_lock_call past))
    ((rw c.in-Some-2.is at c.in_ok-record.ensures.order) (own_events is_record_call past) is.record.keeps
    (ap (λ (ns : List ℕ). length ns) is.record.numbers ∙ many_numbers is_record_call past))
    (rw (c.as_slice.ensures.value, c.as_slice-2.ensures.value) at c.in_ok-order.ensures)
