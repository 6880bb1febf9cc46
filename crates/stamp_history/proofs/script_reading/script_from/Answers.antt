use Rattle.std.proofs.Common.{Ok, refl, ap}
use Rattle.stamp_history.proofs.FirstFaults.{no_fault, is_first_fault}
use Rattle.stamp_history.proofs.script_reading.script_from.Goals as goal

pub returns-in-Ok : goal.returns-in-Ok
returns-in-Ok c = rw (no_fault c.args.limits c.args.width c.args.threads.items c.args.steps.items
    c.in-Ok.ensures.good) (ap Ok c.in-Ok.ensures.ok)

pub returns-in-Err : goal.returns-in-Err
returns-in-Err c = rw (is_first_fault c.args.limits c.args.width c.args.threads.items c.args.steps.items c.in-Err.fault
    c.in-Err.ensures.fault) refl
