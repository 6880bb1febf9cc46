use Rattle.std.proofs.Common.{◌≡◌, length, rules}
use Rattle.stamp_explain.specs.Cut.{IsStuck}
use Rattle.stamp_explain.specs.Observed.{IsObserved}
use Rattle.stamp_observed.specs.inner.Candidate.{history_of}
use Rattle.stamp_observed.proofs.StuckBehind.{found_behind}
use Rattle.stamp_observed.proofs.behind.stuck_as_told.Goals as goal

pub returns-then-branch : goal.returns-then-branch
returns-then-branch c ended is =
    let made : c.in-Some.history ≡ history_of c.args.none.now c.args.fault.now c.args.candidate.now = search rules in
    let observed : IsObserved c.in-Some.history = search rules in
    let here : c.len-place.result ≡ length c.args.candidate.now.others.items = search rules in
    let stuck : IsStuck c.in-Some.history c.len-place.result = search rules in
    found_behind c.args.none.now c.in-Some.history c.args.fault.now c.args.candidate.now
    c.len-place.result ended made observed here stuck is
