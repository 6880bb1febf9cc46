use Rattle.std.proofs.Common.{◌≡◌, ◌∙◌, ◌<◌, sym, subst, get_or, length, rules}
use Rattle.std.proofs.lemmas.List.{get_or_default}
use Rattle.stamp_core.specs.declared.call.Call.{Call}
use Rattle.stamp_runs.specs.declared.event.Event.{Event}
use Rattle.stamp_runs.specs.declared.event.Event.TheVariants.{Begins}
use Rattle.stamp_runs.specs.Run.{lane_of}
use Rattle.stamp_sets.specs.SmallCall.{call_of}
use Rattle.stamp_watch.proofs.CountingWaiting.{alone}
use Rattle.stamp_watch.proofs.waiting.Waiting.is_alone_in_front.Goals as goal

pub returns-in-Begins : goal.returns-in-Begins
returns-in-Begins c =
    let some : 0 < length c.args.self.now.events.items = search rules in
    let call : Call = call_of c.in-Begins.field-1 in
    let first : get_or c.args.self.now.events.items 0 (Begins c.in-Begins.lane call) ≡ Begins c.in-Begins.lane call =
    get_or_default c.args.self.now.events.items 0 (Begins c.in-Begins.lane call) c.in-Some.event.now some ∙
    sym c.in-Some.ensures.lookup ∙ sym c.in-Begins.ensures in
    alone _ c.in-Begins.lane call c.args.self.now.events.items first some
    (c.requires.counted.counts c.in-Begins.lane 0 (subst (λ (e : Event). lane_of e < 64) first
    (c.requires.counted.lanes 0 (Begins c.in-Begins.lane call) some)))
