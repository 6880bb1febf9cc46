use Rattle.stamp_threads.specs.PassView.{every}
use Rattle.stamp_threads.specs.LockLog.{IsLegalLog}
use Rattle.stamp_threads.proofs.OneHistory.{met_agree}
use Rattle.stamp_threads.proofs.laws.lock_passes_agree.Goals as goal

pub returns : goal.returns
returns c limits v w v' w' m =
    let first = m.all_consistent.0 in
    let second = m.all_consistent.1 in
    met_agree every (IsLegalLog limits) v w v' w' m.met first.legal first.own first.given second.own second.given
