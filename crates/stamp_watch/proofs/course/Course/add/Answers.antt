use Rattle.std.proofs.Common.{List, ◌≡◌, ◌∷◌, ◌++◌, [], ◌∙◌, ◌+◌, ap, length, length-append, refl, subst, sym}
use Rattle.std.specs.Prelude.{drop}
use Rattle.stamp_runs.specs.declared.event.Event.{Event}
use Rattle.stamp_watch.specs.Course.{IsLooked}
use Rattle.stamp_watch.proofs.LettingGo.{spare_added}
use Rattle.stamp_watch.proofs.Looking.{looked_added}
use Rattle.stamp_watch.proofs.Running.{run_added}
use Rattle.stamp_watch.proofs.course.Course.add.Goals as goal

pub returns-clause-course : goal.returns-clause-course
returns-clause-course c limits run is whole =
    let added : c.extend_from_slice.new.self.items ≡ c.args.self.now.events.items ++ c.args.event.now ∷ [] =
    c.in_ok-extend_from_slice.ensures.items ∙
    ap (λ (xs : List Event). c.args.self.now.events.items ++ xs) c.from_ref.ensures.value in
    record {
      on = run_added limits run c.args.self.now.first c.args.self.now.seen c.args.self.now.events.items
          c.extend_from_slice.new.self.items c.args.self.now.base c.args.self.now.watch c.args.event.now added whole
          is.on;
      looked = subst (λ (xs : List Event). IsLooked c.args.self.now.looked (drop c.args.self.now.seen xs)) (sym added)
          (looked_added c.args.self.now.looked c.args.self.now.seen c.args.self.now.events.items c.args.event.now
          is.on.within is.looked);
      spare_is = spare_added limits run (c.args.self.now.first + c.args.self.now.place) c.args.self.now.reach
          c.args.self.now.spare c.args.event.now is.spare_is;
    }

pub returns-clause-longer : goal.returns-clause-longer
returns-clause-longer c = record {
  first = refl;
  seen = refl;
  place = refl;
  reach = refl;
  longer = ap (λ (xs : List Event). length xs) (c.in_ok-extend_from_slice.ensures.items ∙
      ap (λ (xs : List Event). c.args.self.now.events.items ++ xs) c.from_ref.ensures.value) ∙
      length-append c.args.self.now.events.items (c.args.event.now ∷ []);
}
