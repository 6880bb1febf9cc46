use Rattle.std.proofs.Common.{◌≡◌, ◌<◌, List, length, take, get_or, arith, subst, sym, ap, ◌∙◌}
use Rattle.std.specs.Prelude.{fold}
use Rattle.std.proofs.lemmas.List.{length-take-le}
use Rattle.std.proofs.lemmas.List.Sums.{fold_more}
use Rattle.stamp_runs.specs.declared.event.Event.{Event}
use Rattle.stamped_watch.specs.Calls.{IsTold, Told, told_with}
use Rattle.stamped_watch.proofs.CallsTold.{events_told}
use Rattle.stamped_watch.proofs.begun.Calls.push_all.Goals as goal

pub loop-i-preserved : goal.loop-i-preserved
loop-i-preserved c told none at =
    let events : List Event = c.args.events.now in
    let i = c.loop-i.i in
    let e : Event = c.index-events-i.result in
    let less : i < length events = c.loop-i-test.true in
    let here : get_or events i e ≡ e = sym c.index-events-i.is in
    let before : Told = fold told_with told (take i events) in
    let count : before.events ≡ i =
    (let many = events_told told (take i events) in
    let long = length-take-le i events (omega (arith, less)) in omega (arith, many, long, none)) in
    let with : IsTold c.push.new.self (told_with before e) =
    c.in_ok-push.ensures before (omega (arith, count)) (c.loop-i.invariant told none at) in
    subst (λ (t : Told). IsTold c.push.new.self t)
    (sym (fold_more told_with told events i e less ∙ ap (λ (x : Event). told_with before x) here)) with
