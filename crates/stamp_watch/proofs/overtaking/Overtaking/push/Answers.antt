use Rattle.std.proofs.Common.{◌++◌, ◌∷◌, [], Some, None, refl, sym, ◌∙◌, ap, subst}
use Rattle.std.specs.Prelude.{not}
use Rattle.stamp_runs.specs.declared.event.Event.{Event}
use Rattle.stamp_sets.specs.SmallCall.{call_of, reply_of}
use Rattle.stamp_watch.specs.Overtaking.{Tracks}
use Rattle.stamp_watch.specs.Stream.{event_of}
use Rattle.stamp_watch.proofs.overtaking.Overtaking.push.Goals as goal

pub returns-in-Begins : goal.returns-in-Begins
returns-in-Begins c past since tracks =
    subst (λ (e : Event). Tracks past (since ++ e ∷ []) c.begin.new.self)
    (sym (ap event_of c.in-Begins.is) ∙ c.small.ensures)
    (c.begin.ensures past since (call_of c.in-Begins.call) (ap not c.is_lock_call.ensures) tracks)

pub returns-in-Returns : goal.returns-in-Returns
returns-in-Returns c past since tracks =
    subst (λ (e : Event). Tracks past (since ++ e ∷ []) c.end.new.self)
    (sym (ap event_of c.in-Returns.is) ∙ c.small.ensures)
    (c.end.ensures past since (Some (reply_of c.in-Returns.reply)) c.may_tell.ensures tracks)

pub returns-in-Withdraws : goal.returns-in-Withdraws
returns-in-Withdraws c past since tracks =
    subst (λ (e : Event). Tracks past (since ++ e ∷ []) c.end-in-Withdraws.new.self)
    (sym (ap event_of c.in-Withdraws.is) ∙ c.small.ensures)
    (c.end-in-Withdraws.ensures past since None refl tracks)
