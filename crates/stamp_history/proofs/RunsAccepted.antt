-- A run is linearized, so its one judgement is how many calls it has.
use Rattle.std.proofs.Common.{refl}
use Rattle.stamp_machines.proofs.EntryOrder.{always-in-order}
use Rattle.stamp_check.proofs.OneFault.{one_verdict}
use Rattle.stamp_history.specs.RunLaws.{RunsAreAccepted}

pub runs_are_accepted : RunsAreAccepted
runs_are_accepted script sound few =
    let all = (always-in-order script script.steps sound few).linearized in
    (λ a judgement. one_verdict _ a _ judgement (all, refl), λ a judgement. one_verdict _ a _ judgement (all, refl))
