use Rattle.std.proofs.Common.{ℕ, List, [], ◌++◌, ◌∙◌, ap, append-nil, refl, subst, sym, rules}
use Rattle.std.specs.Prelude.{Vec}
use Rattle.std.specs.declared.alloc.Global.{Global}
use Rattle.stamped_watch.specs.declared.stream_judge.StreamJudge.{StreamJudge}
use Rattle.stamped_watch.specs.StreamJudge.{HasTaken, IsPart}
use Rattle.stamped_watch.specs.inner.StreamJudge.{HasTakenNone, HasTakenOne}
use Rattle.stamped_watch.proofs.Taking.{front_more, rest_kept, rest_left}
use Rattle.stamped_watch.proofs.stream_judge.StreamJudge.take_units.Goals as goal

pub returns-in_default : goal.returns-in_default
returns-in_default c most ahead taken has =
    let so_far = c.units.invariant in
    let nothing : HasTakenNone c.units.rest.now c.units.self c.take.new.self = search rules in
    rest_kept most ahead taken so_far.front c.units.rest.now c.args.bytes.now c.take.new.self
    (subst (HasTaken most ahead (taken ++ so_far.front)) (sym nothing.same) (so_far.more most ahead taken has))
    so_far.parts c.extend_from_slice.new.self
    (c.in_ok-extend_from_slice.ensures.items ∙ ap (λ (xs : List ℕ). xs ++ c.units.rest.now)
    (ap (λ (part : Vec ℕ Global). part.items) c.in_ok-behind.ensures.part ∙ so_far.empty))
    (subst (λ (j : StreamJudge). IsPart j.judge c.units.rest.now) (sym nothing.same) nothing.is_part)

pub units-preserved : goal.units-preserved
units-preserved c =
    let one : HasTakenOne c.units.rest.now c.in-Some.behind.now c.units.self c.take.new.self = search rules in
    front_more c.args.bytes.now c.units.rest.now c.in-Some.behind.now c.args.self.now c.units.self
    c.take.new.self c.units.invariant one c.in_ok-behind.ensures.part

pub returns : goal.returns
returns c most ahead taken has =
    let so_far = c.units.invariant in
    rest_left most ahead taken so_far.front c.units.rest.now c.args.bytes.now c.units.self
    (so_far.more most ahead taken has) so_far.parts c.units-test.ensures so_far.empty

pub units-init : goal.units-init
units-init c = record {
  front = [];
  parts = refl;
  more = λ most ahead taken has. subst (λ (xs : List ℕ). HasTaken most ahead xs c.args.self.now)
      (sym (append-nil taken)) has;
  some = c.requires.some;
  empty = c.requires.empty;
}
