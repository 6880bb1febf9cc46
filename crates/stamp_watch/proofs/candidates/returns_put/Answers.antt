use Rattle.std.proofs.Common.{◌∷◌, [], sym, ◌∙◌, ap}
use Rattle.stamp_runs.specs.declared.event.Event.TheVariants.{Begins}
use Rattle.stamp_sets.specs.SmallCall.{call_of, reply_of}
use Rattle.stamp_sets.specs.declared.small_call.SmallCall.{SmallCall}
use Rattle.stamp_watch.specs.Stream.{event_of}
use Rattle.stamp_watch.proofs.LeftSince.{returned_put}
use Rattle.stamp_watch.proofs.candidates.returns_put.Goals as goal

pub returns : goal.returns
returns c is_true = returned_put c.args.event.now c.args.behind.now c.in-Begins-default-Put.lane c.in-Some.place
    c.in-Returns.field-0 (c.in-Begins-default-Put.field-1-0 ∷ []) c.index-behind-place.result
    (reply_of c.in-Returns.field-1)
    (sym c.small.ensures ∙ ap event_of c.in-Begins-default-Put.is ∙
    ap (λ (call : SmallCall). Begins c.in-Begins-default-Put.lane (call_of call)) c.in-Begins-default-Put.field-1-is)
    c.in-Some.ensures c.index-behind-place.is (sym c.small-2.ensures ∙ ap event_of c.in-Returns.is)
