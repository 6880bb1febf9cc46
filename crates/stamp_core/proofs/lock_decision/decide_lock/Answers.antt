use Rattle.std.proofs.Common.{◌∙◌}
use Rattle.stamp_core.proofs.Deciding.{decides, decision_is, decision_fits}
use Rattle.stamp_core.proofs.lock_decision.decide_lock.Goals as goal

pub returns-clause-decides : goal.returns-clause-decides
returns-clause-decides c = rw c.decided.ensures (decides c.args.limits c.args.word c.args.call.now c.known.ensures)

pub returns-clause-number : goal.returns-clause-number
returns-clause-number c = c.decided.ensures ∙
    decision_is c.args.limits c.args.word c.args.call.now c.requires.admitted.represented.layout

pub returns-clause-fits : goal.returns-clause-fits
returns-clause-fits c = rw c.decided.ensures (decision_fits c.args.limits c.args.word c.args.call.now
    c.known.ensures c.requires.admitted)
