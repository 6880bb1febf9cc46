use Rattle.stamp_threads.specs.RecordLog.{IsLegalLog, is_call}
use Rattle.stamp_threads.proofs.OneHistory.{met_agree}
use Rattle.stamp_threads.proofs.laws.record_passes_agree.Goals as goal

pub returns : goal.returns
returns c width v w v' w' m =
    let first = m.all_consistent.0 in
    let second = m.all_consistent.1 in
    met_agree is_call (IsLegalLog width) v w v' w' m.met first.legal first.own first.given second.own second.given
