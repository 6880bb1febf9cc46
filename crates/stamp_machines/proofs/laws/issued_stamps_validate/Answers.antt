use Rattle.stamp_machines.proofs.EntryLaws.{stamps_validate}
use Rattle.stamp_machines.proofs.laws.issued_stamps_validate.Goals as goal

pub returns : goal.returns
returns c = stamps_validate
