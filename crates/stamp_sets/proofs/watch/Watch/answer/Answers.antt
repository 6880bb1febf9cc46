use Rattle.std.proofs.Common.{sym, ◌∙◌}
use Rattle.stamp_core.specs.Call.{is_lock_call}
use Rattle.stamp_runs.specs.Own.{own_events}
use Rattle.stamp_sets.specs.Watch.{is_record_call}
use Rattle.stamp_sets.proofs.Pairing.{both_explain, hopeless_by_lock, hopeless_by_record}
use Rattle.stamp_runs.proofs.Lanes.{true_or_false}
use Rattle.stamp_sets.proofs.watch.Watch.answer.Goals.{then-is_dead, else-is_dead}
use Rattle.stamp_sets.proofs.watch.Watch.answer.Goals as goal

pub returns-then-is_dead-2 : goal.returns-then-is_dead-2
returns-then-is_dead-2 c past is = elim c.if-is_dead.branch [
  | then-is_dead w ↦ hopeless_by_lock past c.args.self.now is (c.is_dead.ensures.dead w.if-is_dead.true
      (own_events is_lock_call past) c.args.self.now.last is.lock.keeps)
  | else-is_dead w ↦ hopeless_by_record past c.args.self.now is (w.is_dead-else-is_dead.ensures.dead
      (sym w.value-is ∙ c.if-is_dead-2.true) (own_events is_record_call past) c.args.self.now.last is.record.keeps)
]

pub returns-else-is_dead-2 : goal.returns-else-is_dead-2
returns-else-is_dead-2 c past is = elim c.if-is_dead.branch [
  | then-is_dead w ↦ absurd (true_or_false (w.value-is ∙ w.if-is_dead.true) c.if-is_dead-2.false)
  | else-is_dead w ↦ both_explain past c.args.self.now is (c.is_dead.ensures.alive w.if-is_dead.false
      (own_events is_lock_call past) c.args.self.now.last is.lock.keeps)
      (w.is_dead-else-is_dead.ensures.alive (sym w.value-is ∙ c.if-is_dead-2.false) (own_events is_record_call past)
      c.args.self.now.last is.record.keeps)
]
