use Rattle.std.proofs.Common.{sym, subst, ℕ}
use Rattle.std.proofs.lemmas.Bool.{false≢true}
use Rattle.stamp_watch.specs.Ahead.{IsSpared}
use Rattle.stamp_watch.specs.inner.Delay.{IsFirstOfLaneAt}
use Rattle.stamp_watch.proofs.Issuing.{none_of_lane, older_none, older_some}
use Rattle.stamp_watch.proofs.issued.issues_older.Goals as goal

pub returns-in_default : goal.returns-in_default
returns-in_default c = (
  (λ no. absurd (false≢true no)),
  (λ is. absurd (none_of_lane c.args.limits c.args.version
      c.args.begun.now c.args.behind.now (subst (IsSpared c.args.behind.now) c.lane_of.ensures c.in_default.ensures)
      is)),
)

pub returns-in-Some-version_issued : goal.returns-in-Some-version_issued
returns-in-Some-version_issued c = older_some c.args.limits c.args.version c.args.begun.now c.args.behind.now
    c.in-Some.place c.index-behind-place.result
    (subst (λ (lane : ℕ). IsFirstOfLaneAt c.args.behind.now lane c.in-Some.place) c.lane_of.ensures c.in-Some.ensures)
    (sym c.index-behind-place.is) c.in-Some-version_issued.issued c.in-Some-version_issued.ensures.issued

pub returns-in-None : goal.returns-in-None
returns-in-None c = (
  (λ no. absurd (false≢true no)),
  (λ is. absurd (older_none c.args.limits c.args.version
      c.args.begun.now c.args.behind.now c.in-Some.place c.index-behind-place.result
      (subst (λ (lane : ℕ). IsFirstOfLaneAt c.args.behind.now lane c.in-Some.place) c.lane_of.ensures
      c.in-Some.ensures)
      (sym c.index-behind-place.is) c.in-None.ensures.issued is)),
)
