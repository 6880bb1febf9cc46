use Rattle.std.proofs.Common.{List, [], ◌∷◌, ◌++◌, Option, Vec, Global, inl, inr, sym, ◌∙◌, ap, subst}
use Rattle.std.specs.Option.{MatchOption}
use Rattle.stamp_sets.specs.declared.position.Position.{Position}
use Rattle.stamp_sets.specs.declared.trail.Entry.{Entry}
use Rattle.stamp_sets.specs.declared.trail.Entry.TheVariants.{Returns}
use Rattle.stamp_sets.specs.Judged.{judged}
use Rattle.stamp_sets.specs.inner.Layer.{ReturnsThrough, TooManyFollow}
use Rattle.stamp_sets.specs.inner.Trail.{GoesOnTo, ReturnsTraced}
use Rattle.stamp_sets.proofs.Trailing.{returned_each}
use Rattle.stamp_sets.proofs.layers.return_call.Goals as goal

pub returns-then-is_in_each-clause-done : goal.returns-then-is_in_each-clause-done
returns-then-is_in_each-clause-done c = inl c.return_in_each.ensures

pub returns-then-is_in_each-clause-noted : goal.returns-then-is_in_each-clause-noted
returns-then-is_in_each-clause-noted c is = record {
  first = c.new-trail.result;
  then = c.new-trail.result;
  on = c.new-trail.ensures.on;
  none = c.new-trail.ensures.none;
  returns = returned_each (judged c.args.object.now) c.args.table.now c.args.lane c.new-trail.result
      c.args.positions.now.items c.return_in_each.new.positions.items c.return_in_each.ensures;
  goes_on = subst (λ (es : List Entry). GoesOnTo c.args.trace.now c.go_on.new.self (es ++ Returns c.args.lane ∷ [])
      c.args.number) (sym c.new-trail.ensures.none) c.in_ok-go_on.ensures.goes_on;
}

pub returns-clause-done : goal.returns-clause-done
returns-clause-done c = inr
    (subst (λ (xs : List Position). ReturnsThrough (judged c.args.object.now) c.args.table.now c.args.lane xs
    c.in-Some.done.items) c.as_slice-start.ensures.value
    (subst (λ (found : Option (Vec Position Global)). MatchOption found (TooManyFollow (judged c.args.object.now)
    c.args.table.now c.args.lane c.args.most c.as_slice-start.result.now)
    (λ done. ReturnsThrough (judged c.args.object.now) c.args.table.now c.args.lane c.as_slice-start.result.now
    done.items)) c.in-Some.is c.in_ok-done.ensures.done))

pub returns-clause-noted : goal.returns-clause-noted
returns-clause-noted c is = record {
  first = c.new-trail.result;
  then = c.returned.new.trail;
  on = c.new-trail.ensures.on;
  none = c.new-trail.ensures.none;
  returns = returned;
  goes_on = goes;
}
  where
    returned : ReturnsTraced (judged c.args.object.now) c.args.table.now c.args.lane c.new-trail.result
        c.returned.new.trail c.args.positions.now.items c.in-Some.done.items
    returned = subst (λ (xs : List Position). ReturnsTraced (judged c.args.object.now) c.args.table.now c.args.lane
        c.new-trail.result c.returned.new.trail xs c.in-Some.done.items) c.as_slice-start.ensures.value
        (subst (λ (found : Option (Vec Position Global)). MatchOption found (Unit {0})
        (λ done. ReturnsTraced (judged c.args.object.now) c.args.table.now c.args.lane c.new-trail.result
        c.returned.new.trail c.as_slice-start.result.now done.items)) c.in-Some.is c.in_ok-done.ensures.noted)

    goes : GoesOnTo c.args.trace.now c.go_on-2.new.self (c.returned.new.trail.entries.items ++ Returns c.args.lane ∷ [])
        c.args.number
    goes = record {
      on = c.in_ok-go_on-2.ensures.goes_on.on;
      added = λ on. c.in_ok-go_on-2.ensures.goes_on.added on ∙ ap (λ (es : List Entry). c.args.trace.now.entries ++ es)
          (c.as_slice-2.ensures.value ∙ c.in_ok-note.ensures.added (returned.on ∙ c.new-trail.ensures.on ∙ on));
      told = c.in_ok-go_on-2.ensures.goes_on.told;
    }
