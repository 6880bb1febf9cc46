use Rattle.std.proofs.Common.{◌≡◌, sym, ◌∙◌, subst, Bool, true, false, Some, None}
use Rattle.std.specs.Prelude.{slice_set}
use Rattle.stamp_check.specs.inner.Walk.{Advances}
use Rattle.stamp_check.specs.declared.walk.Walk.{Walk}
use Rattle.stamp_check.proofs.WalkSteps.{breaks_overlap, breaks_lock_reply, breaks_record_reply}
use Rattle.stamp_check.proofs.WalkSteps.{lock_goes_on, record_goes_on, Follows}
use Rattle.stamp_check.proofs.walk.Walk.advance.Goals as goal
use Rattle.stamp_check.proofs.walk.Walk.advance.Goals.{Else-not-is_above-2}
use Rattle.stamp_check.proofs.walk.Walk.advance.Goals.{then-is_lock_call+in-Some}
use Rattle.stamp_check.proofs.walk.Walk.advance.Goals.{else-is_lock_call+in-Some-record_goes_on}

refuted : {P : Type 0} (b : Bool) → (P → b ≡ true) → b ≡ false → ¬ P
refuted b f not p = let is : b ≡ true = f p in cc

pub returns-then-not-is_above-2 : goal.returns-then-not-is_above-2
returns-then-not-is_above-2 c =
    breaks_overlap c.args.limits c.args.entry.now c.args.self.now c.args.self.now None c.requires.thread
    (c.has_point_inside.ensures.0 c.if-not-has_point_inside.false) (c.is_above.ensures.0 c.if-not-is_above.false)
    (refuted _ c.is_above-2.ensures.1 c.if-not-is_above-2.true)

-- the tests before the reply have passed
follows : (c : Else-not-is_above-2) → Follows c.args.entry.now c.args.self.now None
follows c = record {
  thread = c.requires.thread;
  within = c.has_point_inside.ensures.0 c.if-not-has_point_inside.false;
  above = c.is_above.ensures.0 c.if-not-is_above.false;
  free = c.is_above-2.ensures.0 c.if-not-is_above-2.false;
}

pub returns-in_default : goal.returns-in_default
returns-in_default c =
    breaks_lock_reply c.args.limits c.args.entry.now c.args.self.now c.args.self.now None
    (follows (goal.at.returns-in_default c).Else-not-is_above-2)
    (sym c.is_lock_call.ensures ∙ c.if-is_lock_call.true) c.in_default.ensures

pub returns-in_default-record_goes_on : goal.returns-in_default-record_goes_on
returns-in_default-record_goes_on c =
    breaks_record_reply c.args.limits c.args.entry.now c.args.self.now c.args.self.now None
    (follows (goal.at.returns-in_default-record_goes_on c).Else-not-is_above-2)
    (sym c.is_lock_call.ensures ∙ c.if-is_lock_call.false) c.in_default-record_goes_on.ensures

pub returns : goal.returns
returns c =
    let e = c.args.entry.now in
    let passed = follows (goal.at.returns c).Else-not-is_above-2 in
    let next = λ (self : Walk). Advances c.args.limits e c.args.self.now
    (record {
      bits = self.bits;
      content = self.content;
      point = Some e.point;
      lasts =
          slice_set self.lasts e.thread (Some e.last);
    }) None in
    elim c.if-is_lock_call.branch [
      | then-is_lock_call+in-Some w ↦ subst next (sym w.self-is)
          (lock_goes_on c.args.limits e c.args.self.now _ None passed
          (sym c.is_lock_call.ensures ∙ w.if-is_lock_call.true) w.in-Some.ensures)
      | else-is_lock_call+in-Some-record_goes_on w ↦ subst next (sym w.self-is)
          (record_goes_on c.args.limits e c.args.self.now _ None passed
          (sym c.is_lock_call.ensures ∙ w.if-is_lock_call.false) w.in-Some-record_goes_on.ensures)
    ]
