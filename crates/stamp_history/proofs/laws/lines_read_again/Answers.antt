use Rattle.stamp_history.proofs.HistoryReadsAgain.{lines_read_again}
use Rattle.stamp_history.proofs.laws.lines_read_again.Goals as goal

pub returns : goal.returns
returns c = lines_read_again
