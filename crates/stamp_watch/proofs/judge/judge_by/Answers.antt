use Rattle.std.proofs.Common.{List, None, [], ◌+◌, ◌∙◌, length, subst, sym}
use Rattle.std.specs.Prelude.{take}
use Rattle.std.proofs.lemmas.Result.{IfOk-weaker}
use Rattle.stamp_runs.specs.declared.event.Event.{Event}
use Rattle.stamp_watch.specs.Judging.{IsFound}
use Rattle.stamp_watch.specs.inner.Judging.{AreTaken, IsOutcome}
use Rattle.stamp_watch.proofs.Judged.{broken_at, explained_whole, found_in_whole, undecided_at, base_first}
use Rattle.stamp_watch.proofs.Judged.{never_explained, never_given_up, stuck_behind}
use Rattle.stamp_watch.proofs.Judging.{judging_first}
use Rattle.stamp_watch.proofs.judge.judge_by.Goals as goal
use Rattle.stamp_watch.proofs.judge.judge_by.Goals.{In_ok-outcome}

found_here : (c : In_ok-outcome) →
    IsOutcome c.args.limits 0 [] c.args.taken.now c.args.most c.in_ok-outcome.outcome
found_here c = c.in_ok-outcome.ensures.outcome c.args.limits [] (judging_first c.args.limits c.args.taken.now
    c.args.watch.now c.requires.watching c.requires.untold c.requires.lanes)

-- what is found of the events of a run that are in form
outcome_here : (c : In_ok-outcome) (run : List Event) → AreTaken run c.args.taken.now →
    IsOutcome c.args.limits 0 [] (take (length c.args.taken.now) run) c.args.most c.in_ok-outcome.outcome
outcome_here c run taken = subst (λ (xs : List Event). IsOutcome c.args.limits 0 [] xs c.args.most
    c.in_ok-outcome.outcome) taken.same (found_here c)

pub judge_on-requires-clause-judging : goal.judge_on-requires-clause-judging
judge_on-requires-clause-judging c = record {
  limits = c.args.limits;
  past = [];
  judging = judging_first c.args.limits c.args.taken.now c.args.watch.now c.requires.watching c.requires.untold
      c.requires.lanes;
}

pub returns-then-taken-many-clause-verdict : goal.returns-then-taken-many-clause-verdict
returns-then-taken-many-clause-verdict c run taken long =
    let at = (goal.at.returns-then-taken-many-clause-verdict c).In_ok-outcome in
    explained_whole c.args.limits run c.args.most (length c.args.taken.now) None
    (c.if-taken-many.true ∙ sym long) taken.form
    (rw c.in-Explained.is at (outcome_here at run taken))

pub returns-else-taken-many-clause-verdict : goal.returns-else-taken-many-clause-verdict
returns-else-taken-many-clause-verdict c run taken long =
    let at = (goal.at.returns-else-taken-many-clause-verdict c).In_ok-outcome in
    broken_at c.args.limits run c.args.most (length c.args.taken.now) None
    (λ same. c.if-taken-many.false (same ∙ long)) taken.form
    (rw c.in-Explained.is at (outcome_here at run taken))

pub returns-then-taken-many-clause-seen : goal.returns-then-taken-many-clause-seen
returns-then-taken-many-clause-seen c same = record {
  all = c.if-taken-many.true;
  seen = c.in_ok-outcome.ensures.seen c.in-Explained.is;
}

pub find_stuck-requires-clause-within : goal.find_stuck-requires-clause-within
find_stuck-requires-clause-within c =
    let at = (goal.at.find_stuck-requires-clause-within c).In_ok-outcome in
    (rw c.in-Unexplained.is at (found_here at)).0

pub find_stuck-requires-clause-stuck : goal.find_stuck-requires-clause-stuck
find_stuck-requires-clause-stuck c =
    let at = (goal.at.find_stuck-requires-clause-stuck c).In_ok-outcome in
    record {
      limits = c.args.limits;
      past = [];
      base = base_first c.args.limits c.in-Unexplained.k c.args.taken.now c.in_ok-base-in-Unexplained.base
          c.in_ok-base-in-Unexplained.ensures.watching c.in_ok-base-in-Unexplained.ensures.untold c.requires.lanes;
      stuck = stuck_behind c.args.limits 0 [] c.args.taken.now c.args.most c.in-Unexplained.k
          (rw c.in-Unexplained.is at (found_here at));
    }

pub returns-in_ok-base-in-Unexplained-clause-verdict : goal.returns-in_ok-base-in-Unexplained-clause-verdict
returns-in_ok-base-in-Unexplained-clause-verdict c =
    let at = (goal.at.returns-in_ok-base-in-Unexplained-clause-verdict c).In_ok-outcome in
    IfOk-weaker c.find_stuck.result _ _
    (λ verdict found run taken long. found_in_whole c.args.limits run c.args.most (length c.args.taken.now)
    None verdict
    (subst (λ (xs : List Event). IsFound c.args.limits xs c.args.most None verdict) taken.same
    (found None c.args.limits [] (base_first c.args.limits c.in-Unexplained.k c.args.taken.now
    c.in_ok-base-in-Unexplained.base c.in_ok-base-in-Unexplained.ensures.watching
    c.in_ok-base-in-Unexplained.ensures.untold c.requires.lanes)
    (stuck_behind c.args.limits 0 [] c.args.taken.now c.args.most c.in-Unexplained.k
    (rw c.in-Unexplained.is at (found_here at)))))) c.find_stuck.ensures.found

pub returns-in_ok-base-in-Unexplained-clause-seen : goal.returns-in_ok-base-in-Unexplained-clause-seen
returns-in_ok-base-in-Unexplained-clause-seen c =
    let at = (goal.at.returns-in_ok-base-in-Unexplained-clause-seen c).In_ok-outcome in
    let stuck = stuck_behind c.args.limits 0 [] c.args.taken.now c.args.most c.in-Unexplained.k
    (rw c.in-Unexplained.is at (found_here at)) in
    IfOk-weaker c.find_stuck.result _ _
    (λ verdict found same. absurd (never_explained c.args.limits c.args.taken.now c.args.most None verdict
    (found None c.args.limits [] (base_first c.args.limits c.in-Unexplained.k c.args.taken.now
    c.in_ok-base-in-Unexplained.base c.in_ok-base-in-Unexplained.ensures.watching
    c.in_ok-base-in-Unexplained.ensures.untold c.requires.lanes) stuck)
    stuck.stuck same)) c.find_stuck.ensures.found

pub returns-in_ok-base-in-Unexplained-clause-among : goal.returns-in_ok-base-in-Unexplained-clause-among
returns-in_ok-base-in-Unexplained-clause-among c = IfOk-weaker c.find_stuck.result _ _
    (λ verdict among. never_given_up c.args.taken.now (0 + c.in-Unexplained.k) (0 + length c.args.taken.now) verdict
    among) c.find_stuck.ensures.among

pub returns-in-TooMany-clause-verdict : goal.returns-in-TooMany-clause-verdict
returns-in-TooMany-clause-verdict c run taken long =
    let at = (goal.at.returns-in-TooMany-clause-verdict c).In_ok-outcome in
    undecided_at c.args.limits run c.args.most (length c.args.taken.now) c.in-TooMany.k None taken.form
    (rw c.in-TooMany.is at (outcome_here at run taken))
