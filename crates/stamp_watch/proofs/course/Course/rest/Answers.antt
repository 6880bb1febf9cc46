use Rattle.std.proofs.Common.{ℕ, List, ◌≡◌, ◌+◌, ◌<◌, ◌++◌, length, Option, None, arith, sym, subst}
use Rattle.std.specs.Prelude.{take, drop}
use Rattle.std.proofs.lemmas.Result.{IfOk-weaker}
use Rattle.stamp_core.specs.Limits.{Bounds}
use Rattle.stamp_runs.specs.declared.event.Event.{Event}
use Rattle.stamp_watch.specs.declared.judge.Outcome.TheVariants.{Unexplained}
use Rattle.stamp_watch.specs.declared.verdict.Verdict.{Verdict}
use Rattle.stamp_watch.specs.Judging.{IsFound}
use Rattle.stamp_watch.specs.inner.Judging.{IsBase, IsOutcome, IsStuckAmong, IsStuckBehind}
use Rattle.stamp_watch.specs.Course.{IsCourse}
use Rattle.stamp_watch.proofs.KeepingEnds.{among_more, keeps_found}
use Rattle.stamp_watch.proofs.Kept.{IfOk-both}
use Rattle.stamp_watch.proofs.Running.{rest_explained, rest_stuck, rest_undecided, rest_within, rest_found, run_finds}
use Rattle.stamp_watch.proofs.Running.{run_stuck_from, rest_judged, rest_outcome}
use Rattle.stamp_watch.proofs.course.Course.rest.Goals as goal
use Rattle.stamp_watch.proofs.course.Course.rest.Goals.{In_ok-outcome}

pub judge_rest-requires-clause-judging : goal.judge_rest-requires-clause-judging
judge_rest-requires-clause-judging c =
    let on = c.requires.on in
    record {
      limits = on.limits;
      past = on.course_of.on.past ++ take c.args.self.now.seen c.args.self.now.events.items;
      judging = rest_judged on.limits on.run c.args.self.now.first c.args.self.now.seen c.args.self.now.events.items
          c.args.self.now.base c.args.self.now.watch on.course_of.on c.as_slice-events.result.now
          c.as_slice-events.ensures.value c.in_ok-start.start c.in_ok-start.ensures;
    }

-- what is found of the events that were not seen
outcome_here : (c : In_ok-outcome) (limits : Bounds) (run : List Event) (is : IsCourse limits run c.args.self.now) →
    IsOutcome limits (c.args.self.now.first + c.args.self.now.seen)
    (is.on.past ++ take c.args.self.now.seen c.args.self.now.events.items)
    (drop c.args.self.now.seen c.args.self.now.events.items) c.args.most
    c.in_ok-outcome.outcome
outcome_here c limits run is = rest_outcome limits run c.args.self.now.first c.args.self.now.seen
    c.args.self.now.events.items c.args.self.now.base c.args.self.now.watch is.on c.as_slice-events.result.now
    c.as_slice-events.ensures.value c.args.most c.in_ok-outcome.outcome
    (c.in_ok-outcome.ensures.outcome limits (is.on.past ++ take c.args.self.now.seen c.args.self.now.events.items)
    (rest_judged limits run c.args.self.now.first c.args.self.now.seen c.args.self.now.events.items
    c.args.self.now.base c.args.self.now.watch is.on c.as_slice-events.result.now c.as_slice-events.ensures.value
    c.in_ok-start.start c.in_ok-start.ensures))

pub overflow_add-explained : goal.overflow_add-explained
overflow_add-explained c =
    let at = (goal.at.overflow_add-explained c).In_ok-outcome in
    let on = c.requires.on in
    let outcome = rw c.in-Unexplained.is at (outcome_here at on.limits on.run on.course_of) in
    let below : c.args.self.now.seen + c.in-Unexplained.k < length c.args.self.now.events.items =
    rest_within on.limits on.run c.args.self.now.first c.args.self.now.seen c.args.self.now.events.items
    c.args.self.now.base c.args.self.now.watch on.course_of.on c.in-Unexplained.k outcome.0 in
    omega (arith, below, c.requires.room.room)

pub find_stuck-requires-clause-within : goal.find_stuck-requires-clause-within
find_stuck-requires-clause-within c =
    let at = (goal.at.find_stuck-requires-clause-within c).In_ok-outcome in
    let on = c.requires.on in
    let outcome = rw c.in-Unexplained.is at (outcome_here at on.limits on.run on.course_of) in
    subst (λ (xs : List Event). c.args.self.now.seen + c.in-Unexplained.k < length xs) (sym c.as_slice.ensures.value)
    (rest_within on.limits on.run c.args.self.now.first c.args.self.now.seen c.args.self.now.events.items
    c.args.self.now.base c.args.self.now.watch on.course_of.on c.in-Unexplained.k outcome.0)

pub find_stuck-requires-clause-stuck : goal.find_stuck-requires-clause-stuck
find_stuck-requires-clause-stuck c =
    let at = (goal.at.find_stuck-requires-clause-stuck c).In_ok-outcome in
    let on = c.requires.on in
    run_stuck_from on.limits on.run c.args.self.now.first c.args.self.now.seen c.args.self.now.events.items
    c.args.self.now.base c.args.self.now.watch on.course_of.on
    (c.args.self.now.seen + c.in-Unexplained.k) c.as_slice.result.now c.as_slice.ensures.value (omega arith)
    (rest_stuck on.limits on.run c.args.self.now.first c.args.self.now.seen c.args.self.now.events.items
    c.args.self.now.base c.args.self.now.watch on.course_of.on c.args.most None c.in-Unexplained.k
    (rw c.in-Unexplained.is at (outcome_here at on.limits on.run on.course_of)))

pub overflow_add-result : goal.overflow_add-result
overflow_add-result c =
    let at = (goal.at.overflow_add-result c).In_ok-outcome in
    let on = c.requires.on in
    let outcome = rw c.in-TooMany.is at (outcome_here at on.limits on.run on.course_of) in
    let below : c.args.self.now.seen + c.in-TooMany.k < length c.args.self.now.events.items =
    rest_within on.limits on.run c.args.self.now.first c.args.self.now.seen c.args.self.now.events.items
    c.args.self.now.base c.args.self.now.watch on.course_of.on c.in-TooMany.k outcome.0 in
    omega (arith, below, c.requires.room.room)

pub returns-in-Explained-clause-rest : goal.returns-in-Explained-clause-rest
returns-in-Explained-clause-rest c ahead limits run is =
    let at = (goal.at.returns-in-Explained-clause-rest c).In_ok-outcome in
    rest_explained limits run c.args.self.now.first c.args.self.now.seen c.args.self.now.events.items
    c.args.self.now.base c.args.self.now.watch is.on c.args.most ahead
    (rw c.in-Explained.is at (outcome_here at limits run is))

-- what is found where those events are not explained, and so many of them are
found_there : (c : In_ok-outcome) (k : ℕ) → c.in_ok-outcome.outcome ≡ Unexplained k → (items : List Event) →
    items ≡ c.args.self.now.events.items → (verdict : Verdict) (ahead : Option ℕ) →
    ((limits : Bounds) (past : List Event) →
    IsBase limits c.args.self.now.first (c.args.self.now.seen + k) past items c.args.self.now.base →
    IsStuckBehind limits past items (c.args.self.now.seen + k) →
    IsFound limits (past ++ items) c.args.most ahead verdict) → (limits : Bounds) (run : List Event) →
    IsCourse limits run c.args.self.now → IsFound limits run c.args.most ahead verdict
found_there c k unexplained items same verdict ahead found limits run is = run_finds limits run c.args.self.now.first
    c.args.self.now.seen c.args.self.now.events.items c.args.self.now.base c.args.self.now.watch is.on
    (c.args.self.now.seen + k) c.args.most ahead items verdict same (omega arith)
    (rest_stuck limits run c.args.self.now.first c.args.self.now.seen c.args.self.now.events.items
    c.args.self.now.base c.args.self.now.watch is.on c.args.most ahead k
    (rw unexplained at (outcome_here c limits run is))) found

pub returns-in-Unexplained-clause-rest : goal.returns-in-Unexplained-clause-rest
returns-in-Unexplained-clause-rest c =
    let at = (goal.at.returns-in-Unexplained-clause-rest c).In_ok-outcome in
    IfOk-weaker c.find_stuck.result _ _
    (λ verdict found ahead limits run is. rest_found limits run c.args.most ahead verdict
    (found_there at c.in-Unexplained.k c.in-Unexplained.is c.as_slice.result.now c.as_slice.ensures.value verdict ahead
    (found ahead) limits run is)) c.find_stuck.ensures.found

pub returns-in-Unexplained-clause-tells : goal.returns-in-Unexplained-clause-tells
returns-in-Unexplained-clause-tells c =
    let at = (goal.at.returns-in-Unexplained-clause-tells c).In_ok-outcome in
    let on = c.requires.on in
    let k = c.in-Unexplained.k in
    IfOk-both c.find_stuck.result _ _ _
    (λ verdict found among. keeps_found on.limits on.run c.args.self.now c.args.most None verdict on.course_of
    (found_there at k c.in-Unexplained.is c.as_slice.result.now c.as_slice.ensures.value verdict None (found None)
    on.limits on.run on.course_of)
    (among_more (c.args.self.now.first + c.args.self.now.seen) (c.args.self.now.first + (c.args.self.now.seen + k))
    (c.args.self.now.first + length c.args.self.now.events.items) verdict (omega arith)
    (subst (λ (xs : List Event). IsStuckAmong (c.args.self.now.first + (c.args.self.now.seen + k))
    (c.args.self.now.first + length xs) verdict) c.as_slice.ensures.value among)))
    c.find_stuck.ensures.found c.find_stuck.ensures.among

pub returns-in-TooMany-clause-rest : goal.returns-in-TooMany-clause-rest
returns-in-TooMany-clause-rest c ahead limits run is =
    let at = (goal.at.returns-in-TooMany-clause-rest c).In_ok-outcome in
    rest_undecided limits run c.args.self.now.first c.args.self.now.seen c.args.self.now.events.items
    c.args.self.now.base c.args.self.now.watch is.on c.args.most ahead c.in-TooMany.k
    (rw c.in-TooMany.is at (outcome_here at limits run is))
