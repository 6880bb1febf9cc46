use Rattle.std.proofs.Common.{ℕ, ◌≡◌, List, None, Some, subst, sym}
use Rattle.stamp_core.specs.Limits.{Bounds}
use Rattle.stamp_explain.specs.Cut.{IsStuck}
use Rattle.stamp_runs.specs.declared.event.Event.{Event}
use Rattle.stamp_sets.specs.Watch.{IsUntold}
use Rattle.stamp_watch.specs.AsEvents.{return_of}
use Rattle.stamp_watch.specs.History.{IsStuckBetween, IsUndecided}
use Rattle.stamp_watch.specs.Verdict.{IsVerdict}
use Rattle.stamp_watch.specs.declared.verdict.Verdict.{Verdict}
use Rattle.stamp_watch.specs.declared.verdict.Verdict.TheVariants.{Explained, Stuck, StuckWithin, Undecided, Broken}
use Rattle.stamp_watch.specs.declared.verdict.Why.{Why}
use Rattle.stamp_watch.specs.inner.History.{IsFirstReturn, IsLastReturn}
use Rattle.stamp_watch.specs.inner.Judging.{GivesUpAmong}
use Rattle.stamp_watch.proofs.JudgedHistory.{IsStuckBetweenThere, IsStuckThere, IsUndecidedThere, first_is_there}
use Rattle.stamp_watch.proofs.JudgedHistory.{judged_alone, judged_broken, judged_explained, judged_stuck}
use Rattle.stamp_watch.proofs.JudgedHistory.{judged_undecided}
use Rattle.stamp_watch.proofs.JudgedHistory.{judged_within, last_is_there, run, run_long, taken, told_whole}
use Rattle.stamp_watch.proofs.JudgedHistory.{within_moments, within_run}
use Rattle.stamp_watch.proofs.history.judged.Goals as goal
use Rattle.stamp_watch.proofs.history.judged.Goals.{In_ok-verdict}

module _ (c : In_ok-verdict) where
  -- the run whose events are told
  abbrev run_here : List Event
  run_here = run c.args.observed.now c.requires.observed c.args.moments.now c.requires.moments c.args.told.now
      c.requires.told

  is_here : (v : Verdict) → c.in_ok-verdict.verdict ≡ v →
      IsVerdict c.args.observed.now.limits run_here c.args.most None v
  is_here v is = subst (λ (x : Verdict). IsVerdict c.args.observed.now.limits run_here c.args.most None x) is
      (subst (λ (limits : Bounds). IsVerdict limits run_here c.args.most None c.in_ok-verdict.verdict)
      c.limits.ensures (c.in_ok-verdict.ensures.verdict run_here
      (taken c.args.observed.now c.requires.observed c.args.moments.now c.requires.moments c.args.told.now
      c.requires.told)
      (run_long c.args.observed.now c.requires.observed c.args.moments.now c.requires.moments c.args.told.now
      c.requires.told)))

  among_here : (v : Verdict) → c.in_ok-verdict.verdict ≡ v → GivesUpAmong c.args.told.now v
  among_here v is = subst (GivesUpAmong c.args.told.now) is c.in_ok-verdict.ensures.among

  stuck_here : (k : ℕ) → c.in_ok-verdict.verdict ≡ Stuck k →
      IsStuckThere c.args.observed.now c.args.moments.now k
  stuck_here k is = judged_stuck c.args.observed.now c.requires.observed c.args.moments.now c.requires.moments
      c.args.told.now c.requires.told c.args.most k (is_here (Stuck k) is)

  broken_here : (k : ℕ) → c.in_ok-verdict.verdict ≡ Broken k →
      IsStuckThere c.args.observed.now c.args.moments.now k
  broken_here k is = judged_broken c.args.observed.now c.requires.observed c.args.moments.now c.requires.moments
      c.args.told.now c.requires.told c.args.most k (is_here (Broken k) is) (among_here (Broken k) is)

  undecided_here : (k : ℕ) (why : Why) → c.in_ok-verdict.verdict ≡ Undecided k why →
      IsUndecidedThere c.args.observed.now c.args.moments.now c.args.most k
  undecided_here k why is = judged_undecided c.args.observed.now c.requires.observed c.args.moments.now
      c.requires.moments c.args.told.now c.requires.told c.args.most k why (is_here (Undecided k why) is)
      (among_here (Undecided k why) is)

  -- between two returns, or at one
  between_here : (k m first last : ℕ) → c.in_ok-verdict.verdict ≡ StuckWithin k m →
      IsFirstReturn c.args.moments.now k (Some first) → IsLastReturn c.args.moments.now m (Some last) →
      IsStuckBetweenThere c.args.observed.now c.args.moments.now c.args.most first last
  between_here k m first last is at_first at_last = judged_within c.args.observed.now c.requires.observed
      c.args.moments.now c.requires.moments c.args.told.now c.requires.told c.args.most k m
      (is_here (StuckWithin k m) is) first last at_first.0 at_first.1 at_first.2 at_last.0 at_last.1 at_last.2

  alone_here : (k m first last : ℕ) → c.in_ok-verdict.verdict ≡ StuckWithin k m →
      IsFirstReturn c.args.moments.now k (Some first) → IsLastReturn c.args.moments.now m (Some last) →
      first ≡ last → IsStuckThere c.args.observed.now c.args.moments.now first
  alone_here k m first last is at_first at_last same = judged_alone c.args.observed.now c.requires.observed
      c.args.moments.now c.requires.moments c.args.told.now c.requires.told c.args.most k m
      (is_here (StuckWithin k m) is) first last same at_first.0 at_first.1 at_first.2 at_last.1 at_last.2

pub judge_by-requires-clause-untold : goal.judge_by-requires-clause-untold
judge_by-requires-clause-untold c = subst (IsUntold c.args.watch.now) (sym c.limits.ensures) c.requires.untold

pub judge_by-requires-clause-lanes : goal.judge_by-requires-clause-lanes
judge_by-requires-clause-lanes c = told_whole c.args.observed.now c.requires.observed c.args.moments.now
    c.requires.moments c.args.told.now c.requires.told

pub returns-in-Explained-clause-judged : goal.returns-in-Explained-clause-judged
returns-in-Explained-clause-judged c =
    let at = (goal.at.returns-in-Explained-clause-judged c).In_ok-verdict in
    judged_explained c.args.observed.now c.requires.observed c.args.moments.now c.requires.moments c.args.told.now
    c.requires.told c.args.most (is_here at Explained c.in-Explained.is)

pub returns-in-Explained-clause-seen : goal.returns-in-Explained-clause-seen
returns-in-Explained-clause-seen c = c.in_ok-verdict.ensures.seen c.in-Explained.is

pub entry_at-requires : goal.entry_at-requires
entry_at-requires c =
    let found = stuck_here (goal.at.entry_at-requires c).In_ok-verdict c.in-Stuck.k c.in-Stuck.is in
    within_moments c.args.moments.now c.in-Stuck.k found.entry found.there

pub returns-in-Stuck-clause-judged : goal.returns-in-Stuck-clause-judged
returns-in-Stuck-clause-judged c =
    let found = stuck_here (goal.at.returns-in-Stuck-clause-judged c).In_ok-verdict c.in-Stuck.k c.in-Stuck.is in
    subst (IsStuck c.args.observed.now)
    (sym (c.entry_at.ensures (return_of found.entry found.there.at.return) found.there.here)) found.stuck

pub entry_at-requires-in-Broken : goal.entry_at-requires-in-Broken
entry_at-requires-in-Broken c =
    let found = broken_here (goal.at.entry_at-requires-in-Broken c).In_ok-verdict c.in-Broken.k c.in-Broken.is in
    within_moments c.args.moments.now c.in-Broken.k found.entry found.there

pub returns-in-Broken-clause-judged : goal.returns-in-Broken-clause-judged
returns-in-Broken-clause-judged c =
    let found = broken_here (goal.at.returns-in-Broken-clause-judged c).In_ok-verdict c.in-Broken.k c.in-Broken.is in
    subst (IsStuck c.args.observed.now)
    (sym (c.entry_at-in-Broken.ensures (return_of found.entry found.there.at.return) found.there.here)) found.stuck

pub entry_at-requires-in-Undecided : goal.entry_at-requires-in-Undecided
entry_at-requires-in-Undecided c =
    let found = undecided_here (goal.at.entry_at-requires-in-Undecided c).In_ok-verdict c.in-Undecided.k
    c.in-Undecided.field-1 c.in-Undecided.is in
    within_moments c.args.moments.now c.in-Undecided.k found.entry found.there

pub returns-in-Undecided-clause-judged : goal.returns-in-Undecided-clause-judged
returns-in-Undecided-clause-judged c =
    let found = undecided_here (goal.at.returns-in-Undecided-clause-judged c).In_ok-verdict c.in-Undecided.k
    c.in-Undecided.field-1 c.in-Undecided.is in
    subst (IsUndecided c.args.observed.now c.args.most)
    (sym (c.entry_at-in-Undecided.ensures (return_of found.entry found.there.at.return) found.there.here))
    found.undecided

pub unreachable-requires : goal.unreachable-requires
unreachable-requires c = first_is_there c.args.observed.now c.requires.observed c.args.moments.now c.requires.moments
    c.args.told.now c.requires.told c.args.most c.in-StuckWithin.k c.in-StuckWithin.m
    (is_here (goal.at.unreachable-requires c).In_ok-verdict (StuckWithin c.in-StuckWithin.k c.in-StuckWithin.m)
    c.in-StuckWithin.is) c.in_default.ensures

pub last_return-requires : goal.last_return-requires
last_return-requires c = within_run c.args.observed.now c.requires.observed c.args.moments.now c.requires.moments
    c.args.told.now c.requires.told c.args.most c.in-StuckWithin.k c.in-StuckWithin.m
    (is_here (goal.at.last_return-requires c).In_ok-verdict (StuckWithin c.in-StuckWithin.k c.in-StuckWithin.m)
    c.in-StuckWithin.is)

pub unreachable-requires-in_default-last_return : goal.unreachable-requires-in_default-last_return
unreachable-requires-in_default-last_return c = last_is_there c.args.observed.now c.requires.observed
    c.args.moments.now c.requires.moments c.args.told.now c.requires.told c.args.most c.in-StuckWithin.k
    c.in-StuckWithin.m (is_here (goal.at.unreachable-requires-in_default-last_return c).In_ok-verdict
    (StuckWithin c.in-StuckWithin.k c.in-StuckWithin.m) c.in-StuckWithin.is) c.in_default-last_return.ensures

pub entry_at-requires-in-StuckWithin : goal.entry_at-requires-in-StuckWithin
entry_at-requires-in-StuckWithin c =
    let found = between_here (goal.at.entry_at-requires-in-StuckWithin c).In_ok-verdict c.in-StuckWithin.k
    c.in-StuckWithin.m c.in-Some.first c.in-Some-last_return.last c.in-StuckWithin.is c.in-Some.ensures
    c.in-Some-last_return.ensures in
    within_moments c.args.moments.now c.in-Some.first found.entry found.there

pub entry_at-requires-in-StuckWithin-2 : goal.entry_at-requires-in-StuckWithin-2
entry_at-requires-in-StuckWithin-2 c =
    let found = between_here (goal.at.entry_at-requires-in-StuckWithin-2 c).In_ok-verdict c.in-StuckWithin.k
    c.in-StuckWithin.m c.in-Some.first c.in-Some-last_return.last c.in-StuckWithin.is c.in-Some.ensures
    c.in-Some-last_return.ensures in
    within_moments c.args.moments.now c.in-Some-last_return.last found.other found.then

pub entry_at-requires-then-first-last : goal.entry_at-requires-then-first-last
entry_at-requires-then-first-last c =
    let found = alone_here (goal.at.entry_at-requires-then-first-last c).In_ok-verdict c.in-StuckWithin.k
    c.in-StuckWithin.m c.in-Some.first c.in-Some-last_return.last c.in-StuckWithin.is c.in-Some.ensures
    c.in-Some-last_return.ensures c.if-first-last.true in
    within_moments c.args.moments.now c.in-Some.first found.entry found.there

pub returns-then-first-last-clause-judged : goal.returns-then-first-last-clause-judged
returns-then-first-last-clause-judged c =
    let found = alone_here (goal.at.returns-then-first-last-clause-judged c).In_ok-verdict c.in-StuckWithin.k
    c.in-StuckWithin.m c.in-Some.first c.in-Some-last_return.last c.in-StuckWithin.is c.in-Some.ensures
    c.in-Some-last_return.ensures c.if-first-last.true in
    subst (IsStuck c.args.observed.now)
    (sym (c.entry_at-then-first-last.ensures (return_of found.entry found.there.at.return) found.there.here))
    found.stuck

pub returns-else-first-last-clause-judged : goal.returns-else-first-last-clause-judged
returns-else-first-last-clause-judged c =
    let found = between_here (goal.at.returns-else-first-last-clause-judged c).In_ok-verdict c.in-StuckWithin.k
    c.in-StuckWithin.m c.in-Some.first c.in-Some-last_return.last c.in-StuckWithin.is c.in-Some.ensures
    c.in-Some-last_return.ensures in
    subst (λ (j : ℕ). IsStuckBetween c.args.observed.now c.args.most c.entry_at-in-StuckWithin.result j)
    (sym (c.entry_at-in-StuckWithin-2.ensures (return_of found.other found.then.at.return) found.then.here))
    (subst (λ (i : ℕ). IsStuckBetween c.args.observed.now c.args.most i found.other)
    (sym (c.entry_at-in-StuckWithin.ensures (return_of found.entry found.there.at.return) found.there.here))
    found.between)
