use Rattle.std.proofs.Common.{◌++◌, ◌∷◌, [], List, Option, subst, sym}
use Rattle.std.proofs.lemmas.Result.{IfOk-weaker}
use Rattle.stamp_core.specs.Limits.{Bounds}
use Rattle.stamp_explain.specs.Possible.{AreAllPossible}
use Rattle.stamp_runs.specs.BothRun.{AreExplained}
use Rattle.stamp_runs.specs.declared.event.Event.{Event}
use Rattle.stamp_runs.specs.declared.event.Event.TheVariants.{Returns}
use Rattle.stamp_sets.specs.SmallCall.{reply_of}
use Rattle.stamp_sets.specs.declared.small_call.SmallReply.{SmallReply}
use Rattle.stamp_watch.specs.declared.trial.Trial.{Trial}
use Rattle.stamp_watch.specs.inner.Trial.{AreFound, IsTrialAt, IsTrialOrNone}
use Rattle.stamp_watch.proofs.AllFound.{all_found, differ_unmapped}
use Rattle.stamp_watch.proofs.AllTried.{all_impossible}
use Rattle.stamp_watch.proofs.replies.possible_at.Goals as goal
use Rattle.stamp_watch.proofs.replies.possible_at.Goals.{In-Some}

trial_here : (c : In-Some) → IsTrialAt c.args.observed.now c.args.entry c.args.most c.trial_at.new.names c.in-Some.trial
trial_here c = subst (λ (o : Option Trial). IsTrialOrNone c.args.observed.now c.args.entry c.args.most
    c.trial_at.new.names o) c.in-Some.is c.in_ok-trial.ensures.trial

pub returns-in_default-clause-possible : goal.returns-in_default-clause-possible
returns-in_default-clause-possible c = subst (AreAllPossible c.args.observed.now c.args.entry)
    (sym c.new.ensures.items) (all_impossible c.args.observed.now c.args.entry
    (subst (λ (o : Option Trial). IsTrialOrNone c.args.observed.now c.args.entry c.args.most c.trial_at.new.names o)
    c.in_default.is c.in_ok-trial.ensures.trial))

pub possible_tried-requires : goal.possible_tried-requires
possible_tried-requires c =
    (c.args.entry, c.args.most, trial_here (goal.at.possible_tried-requires c).In-Some)

pub returns-clause-possible : goal.returns-clause-possible
returns-clause-possible c =
    let is = trial_here (goal.at.returns-clause-possible c).In-Some in
    IfOk-weaker c.possible_tried.result _ _ (λ found are. all_found is c.in_ok-held.held.items found.items
    (λ told explained. c.in_ok-held.ensures.whole told
    (subst (λ (limits : Bounds). AreExplained limits (c.as_slice-events.result.now ++
    Returns c.in-Some.trial.lane told ∷ [])) (sym c.limits.ensures)
    (subst (λ (es : List Event). AreExplained c.args.observed.now.limits (es ++ Returns c.in-Some.trial.lane told ∷
    [])) (sym c.as_slice-events.ensures.value) explained)))
    (differ_unmapped reply_of c.in_ok-held.held.items c.in_ok-held.ensures.once)
    (subst (λ (ts : List SmallReply). AreFound c.args.observed.now c.args.entry c.trial_at.new.names ts found.items)
    c.as_slice.ensures.value (are c.args.entry c.args.most is))) c.possible_tried.ensures.found
