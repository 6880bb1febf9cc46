use Rattle.stamp_machines.proofs.StepsKeep.{always-kept}
use Rattle.stamp_machines.proofs.laws.finished_calls_are_legal.Goals as goal

pub returns : goal.returns
returns c = λ script steps sound few. (always-kept script steps sound few).legal
