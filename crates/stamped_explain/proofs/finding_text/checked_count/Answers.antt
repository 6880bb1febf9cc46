use Rattle.stamp_check.proofs.OneFault.{faults_are_exact}
use Rattle.stamped_explain.proofs.finding_text.checked_count.Goals as goal

pub unreachable-requires : goal.unreachable-requires
unreachable-requires c = faults_are_exact c.args.made.now c.in-Err.field-0.entry c.in-Err.field-0.why c.in-Err.ensures
    c.requires
