use Rattle.std.proofs.Common.{List, Option, sym, subst, ◌++◌, ◌∷◌, []}
use Rattle.stamp_runs.specs.declared.event.Event.TheVariants as event
use Rattle.stamp_sets.specs.declared.open_call.OpenCall.{OpenCall}
use Rattle.stamp_sets.specs.Judged.{judged}
use Rattle.stamp_sets.specs.SmallCall.{reply_of}
use Rattle.stamp_sets.specs.Told.{HasEachOpen}
use Rattle.stamp_sets.specs.inner.Covering.{IsThinned}
use Rattle.stamp_sets.specs.inner.Trail.{AreReturnedBy}
use Rattle.stamp_sets.proofs.Answering.{kept_states, returned_read, too_many_read}
use Rattle.stamp_sets.proofs.Stepping.{busy_ended}
use Rattle.stamp_sets.proofs.half.Half.returns.Goals as goal
use Rattle.stamp_sets.proofs.half.Half.returns.Goals.{After-thin}

pub return_call-requires-clause-states : goal.return_call-requires-clause-states
return_call-requires-clause-states c = kept_states (judged c.args.self.now.object) c.requires.some.past
    c.args.self.now.table.items c.requires.some.last c.args.self.now.positions.items c.requires.some.keeps.kept

pub returns-then-not-returned-clause-more : goal.returns-then-not-returned-clause-more
returns-then-not-returned-clause-more c not past last keeps = too_many_read c.args.self.now past last c.args.lane
    c.args.most c.as_slice.result.now c.return_call.new.positions.items c.in_ok-returned.returned
    c.as_slice.ensures.value c.if-not-returned.true c.in_ok-returned.ensures.done keeps

pub thin-requires : goal.thin-requires
thin-requires c = subst (λ (t : List (Option OpenCall)). HasEachOpen t c.without_lane-self.result)
    (sym c.as_slice-2.ensures.value) (busy_ended c.args.self.now.table.items c.put.new.table.items c.args.lane
    c.args.self.now.busy c.without_lane-self.result c.requires.some.keeps.busy c.put.ensures
    c.without_lane-self.ensures)

-- what is left of the positions
thinned : (c : After-thin) → IsThinned (judged c.args.self.now.object) c.put.new.table.items
    c.return_call.new.positions.items c.thin.new.positions.items
thinned c = subst (λ (t : List (Option OpenCall)). IsThinned (judged c.args.self.now.object) t
    c.return_call.new.positions.items c.thin.new.positions.items) c.as_slice-2.ensures.value c.thin.ensures

pub returns-clause-noted : goal.returns-clause-noted
returns-clause-noted c is = record {
  positions = c.return_call.new.positions.items;
  returns = subst (λ (t : List (Option OpenCall)). AreReturnedBy (judged c.args.self.now.object) t c.args.lane
      c.args.number c.args.trace.now c.return_call.new.trace c.args.self.now.positions.items
      c.return_call.new.positions.items)
      c.as_slice.ensures.value (c.in_ok-returned.ensures.noted c.if-not-returned.false);
  only = (thinned (goal.at.returns-clause-noted c).After-thin).only;
}

pub returns-clause-keeps : goal.returns-clause-keeps
returns-clause-keeps c is past last place reply keeps told due = record {
  kept = (thinned (goal.at.returns-clause-keeps c).After-thin).kept (past ++ event.Returns c.args.lane (reply_of
      reply) ∷ []) place (returned_read
      c.args.self.now.object past last c.args.lane c.args.self.now.table.items c.put.new.table.items
      c.args.self.now.positions.items keeps.kept c.as_slice.result.now c.return_call.new.positions.items reply place
      c.args.most c.as_slice.ensures.value told due c.put.ensures c.in_ok-returned.returned c.if-not-returned.false
      c.in_ok-returned.ensures.done);
  busy = busy_ended c.args.self.now.table.items c.put.new.table.items c.args.lane c.args.self.now.busy
      c.without_lane-self.result keeps.busy c.put.ensures c.without_lane-self.ensures;
}
