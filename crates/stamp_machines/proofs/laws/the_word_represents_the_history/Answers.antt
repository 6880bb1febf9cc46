use Rattle.stamp_machines.proofs.StepsKeep.{always-kept}
use Rattle.stamp_machines.proofs.laws.the_word_represents_the_history.Goals as goal

pub returns : goal.returns
returns c = λ script steps sound few. (always-kept script steps sound few).represented
