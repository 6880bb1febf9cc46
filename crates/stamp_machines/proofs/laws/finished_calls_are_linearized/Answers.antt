use Rattle.stamp_machines.proofs.EntryOrder.{always-in-order}
use Rattle.stamp_machines.proofs.laws.finished_calls_are_linearized.Goals as goal

pub returns : goal.returns
returns c = λ script steps sound few. let o = always-in-order script steps sound few in
    (o.linearized, o.points)
