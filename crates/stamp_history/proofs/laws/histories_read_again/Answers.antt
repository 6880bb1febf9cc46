use Rattle.stamp_history.proofs.HistoryReadsAgain.{reads_again}
use Rattle.stamp_history.proofs.laws.histories_read_again.Goals as goal

pub returns : goal.returns
returns c = reads_again
