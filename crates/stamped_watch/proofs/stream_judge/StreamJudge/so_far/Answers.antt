use Rattle.std.proofs.Common.{◌≡◌, Some, rules}
use Rattle.stamped_watch.proofs.Ending.{so_far_is}
use Rattle.stamped_watch.proofs.stream_judge.StreamJudge.so_far.Goals as goal

pub returns : goal.returns
returns c most ahead fed is =
    let same : c.args.self.now.judge ≡ Some c.in_ok-judge.field-0.now = search rules in
    so_far_is most ahead fed c.args.self.now is c.requires.none c.in_ok-judge.field-0.now same _
    c.saturating_sub.ensures c.explained.ensures c.open_calls.ensures
