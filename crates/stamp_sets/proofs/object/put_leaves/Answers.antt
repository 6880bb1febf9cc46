use Rattle.stamp_sets.specs.Judged.{may_be_done}
use Rattle.stamp_sets.proofs.Overwriting.{no_put, put_done, put_not_done}
use Rattle.stamp_sets.proofs.object.put_leaves.Goals as goal

pub returns-in_default : goal.returns-in_default
returns-in_default c = no_put c.args.begun.now.asks (may_be_done c.args.begun.now.ends) c.in_default.not-Put

pub returns-then-may_get : goal.returns-then-may_get
returns-then-may_get c = put_done c.in-Put.number c.args.begun.now.asks c.in-Put.is c.args.begun.now.ends
    c.may_get.result c.may_get.ensures c.if-may_get.true

pub returns-else-may_get : goal.returns-else-may_get
returns-else-may_get c = put_not_done c.in-Put.number c.args.begun.now.asks c.in-Put.is c.args.begun.now.ends
    c.may_get.result c.may_get.ensures c.if-may_get.false
