use Rattle.std.proofs.Common.{false, ◌<◌, ◌++◌, List, length, sym, ap, subst, arith}
use Rattle.std.proofs.lemmas.List.{append-nil, take_all}
use Rattle.stamp_explain.specs.declared.observed.Observation.{Observation}
use Rattle.stamp_watch.specs.declared.moments.Moment.{Moment}
use Rattle.stamp_watch.specs.inner.Ordering.{AreLastBegun}
use Rattle.stamp_watch.proofs.LastBegun.{begin_next, entry_within, lane_low, return_next}
use Rattle.stamp_watch.proofs.ordering.pass.Goals as goal
use Rattle.stamp_watch.proofs.ordering.pass.Goals.{then-not-moment, else-not-moment}

pub loop-moment-init : goal.loop-moment-init
loop-moment-init c past are = subst (λ (ms : List Moment). AreLastBegun c.args.observed.now.entries ms c.args.last.now)
    (sym (append-nil past)) are

pub bounds-entries-moment : goal.bounds-entries-moment
bounds-entries-moment c =
    let less : _ < length c.args.observed.now.entries = entry_within c.args.observed.now.entries c.args.moments.now
    c.loop-moment.moment-index _ c.loop-moment-test.true c.requires.of c.if-not-moment.true in
    omega (arith, less, ap (λ (es : List Observation). length es) c.entries-entries.ensures.entries)

pub offset_bounds-entries-moment : goal.offset_bounds-entries-moment
offset_bounds-entries-moment c =
    let less : _ < length c.args.observed.now.entries = entry_within c.args.observed.now.entries c.args.moments.now
    c.loop-moment.moment-index _ c.loop-moment-test.true c.requires.of c.if-not-moment.true in
    omega (arith, less, c.entries-entries.ensures.small.entries)

pub bounds-entries-moment-then-not-moment : goal.bounds-entries-moment-then-not-moment
bounds-entries-moment-then-not-moment c = bounds-entries-moment c

pub bounds-last-lane : goal.bounds-last-lane
bounds-last-lane c = lane_low c.args.observed.now.entries c.entries-entries.result.now c.args.moments.now
    c.loop-moment.moment-index _ _ c.entries-entries.ensures.entries c.loop-moment-test.true c.requires.of
    c.if-not-moment.true c.requires.told.threads

pub offset_bounds-last-lane : goal.offset_bounds-last-lane
offset_bounds-last-lane c =
    let low = lane_low c.args.observed.now.entries c.entries-entries.result.now c.args.moments.now
    c.loop-moment.moment-index (record { entry = 0; position = 0; is_return = false }) c.index-entries-moment.result
    c.entries-entries.ensures.entries c.loop-moment-test.true c.requires.of c.if-not-moment.true
    c.requires.told.threads in
    omega (arith, low)

pub loop-moment-preserved : goal.loop-moment-preserved
loop-moment-preserved c past are = elim c.if-not-moment.branch [
  | then-not-moment w ↦ rw (w.last-is, c.entries-entries.ensures.entries) (begin_next c.args.observed.now.entries past
      c.args.moments.now c.loop-moment.moment-index _ c.loop-moment.last c.loop-moment-test.true c.requires.of
      (c.loop-moment.invariant past are) _ w.if-not-moment.true c.requires.told.threads)
  | else-not-moment w ↦ rw w.last-is (return_next c.args.observed.now.entries past
      c.args.moments.now c.loop-moment.moment-index _ c.loop-moment.last c.loop-moment-test.true c.requires.of
      (c.loop-moment.invariant past are) w.if-not-moment.false)
]

pub returns : goal.returns
returns c past are = subst (λ (ms : List Moment). AreLastBegun c.args.observed.now.entries (past ++ ms)
    c.loop-moment.last) (take_all c.loop-moment.moment-index c.args.moments.now (omega arith))
    (c.loop-moment.invariant past are)
