use Rattle.stamp_machines.proofs.EntryLaws.{gets_answer_content}
use Rattle.stamp_machines.proofs.laws.gets_answer_the_content.Goals as goal

pub returns : goal.returns
returns c = gets_answer_content
