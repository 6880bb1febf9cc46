use Rattle.std.proofs.Common.{◌++◌, ◌∷◌, [], List, refl, sym, subst}
use Rattle.std.specs.Prelude.{take}
use Rattle.std.proofs.lemmas.Bool.{false≢true}
use Rattle.stamp_core.specs.Limits.{Bounds}
use Rattle.stamp_sets.specs.SmallCall.{reply_of}
use Rattle.stamp_runs.specs.declared.event.Event.{Event}
use Rattle.stamp_runs.specs.declared.event.Event.TheVariants.{Returns}
use Rattle.stamp_watch.specs.Possible.{KeepsBase}
use Rattle.stamp_watch.specs.inner.Judging.{IsOutcome}
use Rattle.stamp_watch.specs.inner.Possible.{IsReturnFor}
use Rattle.stamp_watch.proofs.TryingReplies.{not_possible_here, possible_here, return_for, too_many_here}
use Rattle.stamp_watch.proofs.online.Judge.is_possible.Goals as goal
use Rattle.stamp_watch.proofs.online.Judge.is_possible.Goals.{In_ok-outcome}

pub judge_with-requires-clause-kept : goal.judge_with-requires-clause-kept
judge_with-requires-clause-kept c =
    let some = c.requires.keeps in record { limits = some.limits; run = some.run; keeps = some.keeps }

pub judge_with-requires-clause-is_return : goal.judge_with-requires-clause-is_return
judge_with-requires-clause-is_return c = subst (λ (e : Event). IsReturnFor c.args.self.now.course.events.items
    c.args.kept.place e) (sym c.returns-event.ensures) (return_for c.requires.keeps.limits c.requires.keeps.run
    c.args.self.now c.requires.keeps.keeps c.args.number c.args.kept.place c.args.kept.lane c.requires.here
    c.args.reply)

-- what is found with the reply
outcome_here : (c : In_ok-outcome) (limits : Bounds) (run : List Event) (keeps : KeepsBase limits run c.args.self.now)
    →
    IsOutcome limits c.args.self.now.course.first keeps.past (take c.args.kept.place
    c.args.self.now.course.events.items
    ++ Returns c.args.kept.lane (reply_of c.args.reply) ∷ []) c.args.self.now.most c.in_ok-outcome.outcome
outcome_here c limits run keeps = subst (λ (e : Event). IsOutcome limits c.args.self.now.course.first keeps.past
    (take c.args.kept.place c.args.self.now.course.events.items ++ e ∷ []) c.args.self.now.most
    c.in_ok-outcome.outcome) c.returns-event.ensures (c.in_ok-outcome.ensures limits run keeps)

pub returns-in-Explained : goal.returns-in-Explained
returns-in-Explained c limits run keeps =
    let at = (goal.at.returns-in-Explained c).In_ok-outcome in (
      (λ yes. possible_here limits run c.args.self.now keeps c.args.number c.args.kept.place c.args.kept.lane
          c.requires.here c.args.reply (rw c.in-Explained.is at (outcome_here at limits run keeps))),
      (λ possible. refl),
    )

pub returns-in-Unexplained : goal.returns-in-Unexplained
returns-in-Unexplained c limits run keeps =
    let at = (goal.at.returns-in-Unexplained c).In_ok-outcome in
    let found = rw c.in-Unexplained.is at (outcome_here at limits run keeps) in (
      (λ yes. absurd (false≢true yes)),
      (λ possible. absurd (not_possible_here limits run c.args.self.now keeps c.args.number c.args.kept.place
          c.args.kept.lane c.requires.here c.args.reply found.2 possible)),
    )

pub returns-in-TooMany : goal.returns-in-TooMany
returns-in-TooMany c limits run keeps =
    let at = (goal.at.returns-in-TooMany c).In_ok-outcome in
    let found = rw c.in-TooMany.is at (outcome_here at limits run keeps) in
    too_many_here limits run c.args.self.now keeps c.args.number c.args.kept.place c.args.kept.lane c.requires.here
    c.args.reply c.in-TooMany.field-0 found.2
