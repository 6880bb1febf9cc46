use Rattle.std.proofs.Common.{ℕ, List, ◌≡◌, ◌+◌, ◌-◌, ◌≤◌, length, ◌∙◌, ap, arith, refl, subst, sym}
use Rattle.std.specs.Prelude.{drop}
use Rattle.std.proofs.lemmas.List.{take_rest}
use Rattle.stamp_core.specs.Limits.{Bounds}
use Rattle.stamp_runs.specs.declared.event.Event.{Event}
use Rattle.stamp_sets.specs.declared.watch.Watch.{Watch}
use Rattle.stamp_watch.specs.Course.{IsCourse, IsRunOn, IsSpare}
use Rattle.stamp_watch.proofs.LettingGo.{run_let_go, looked_let_go, long_let_go, spare_here}
use Rattle.stamp_watch.proofs.course.Course.let_go.Goals as goal
use Rattle.stamp_watch.proofs.course.Course.let_go.Goals.{In_ok-rest}

pub returns-then-not-is_ripe-clause-go : goal.returns-then-not-is_ripe-clause-go
returns-then-not-is_ripe-clause-go c =
    record { same = record { long = refl; courses = λ limits run is. is }; as_many = refl }

rest_here : (c : In_ok-rest) → c.in_ok-rest.rest.items ≡ drop c.args.self.now.place c.args.self.now.events.items
rest_here c = c.in_ok-rest.ensures.items ∙ take_rest c.as_slice-events.result.now c.args.self.now.place ∙
    ap (λ (xs : List Event). drop c.args.self.now.place xs) c.as_slice-events.ensures.value

at_here : (c : In_ok-rest) →
    c.args.self.now.seen ≡ c.args.self.now.place + (c.args.self.now.seen - c.args.self.now.place)
at_here c = omega (arith, c.is_ripe.ensures.ripe c.if-not-is_ripe.false)

ripe_here : (c : In_ok-rest) → c.args.self.now.reach ≤ c.args.self.now.seen - c.args.self.now.place
ripe_here c = omega (arith, c.is_ripe.ensures.ripe c.if-not-is_ripe.false)

long_here : (c : In_ok-rest) →
    c.args.self.now.first + c.args.self.now.place + length c.in_ok-rest.rest.items ≡
    c.args.self.now.first + length c.args.self.now.events.items
long_here c =
    let on = c.requires.on in
    long_let_go on.limits on.run c.args.self.now.first c.args.self.now.seen c.args.self.now.events.items
    c.args.self.now.base c.args.self.now.watch on.course_of.on c.args.self.now.place c.args.self.now.reach
    (c.args.self.now.seen - c.args.self.now.place) c.args.self.now.spare on.course_of.spare_is (at_here c)
    (ripe_here c) c.in_ok-rest.rest.items (rest_here c)

-- the spare watch is the base
on_here : (c : In_ok-rest) (limits : Bounds) (run : List Event) → IsCourse limits run c.args.self.now →
    IsRunOn limits run (c.args.self.now.first + c.args.self.now.place)
    (c.args.self.now.seen - c.args.self.now.place) c.in_ok-rest.rest.items c.args.self.now.spare c.args.self.now.watch
on_here c limits run is = run_let_go limits run c.args.self.now.first c.args.self.now.seen
    c.args.self.now.events.items c.args.self.now.base c.args.self.now.watch is.on c.args.self.now.place
    c.args.self.now.reach (c.args.self.now.seen - c.args.self.now.place) c.args.self.now.spare is.spare_is (at_here c)
    (ripe_here c) c.in_ok-rest.rest.items (rest_here c)

pub returns-clause-go : goal.returns-clause-go
returns-clause-go c =
    let at = (goal.at.returns-clause-go c).In_ok-rest in
    record {
      same = record {
        long = long_here at;
        courses = λ limits run is. record {
          on = subst (λ (base : Watch). IsRunOn limits run (c.args.self.now.first + c.args.self.now.place)
              (c.args.self.now.seen - c.args.self.now.place) c.in_ok-rest.rest.items base c.args.self.now.watch)
              (sym c.replace.ensures.value) (on_here at limits run is);
          looked = looked_let_go limits run c.args.self.now.first c.args.self.now.seen c.args.self.now.events.items
              c.args.self.now.base c.args.self.now.watch is.on c.args.self.now.place c.args.self.now.reach
              (c.args.self.now.seen - c.args.self.now.place) c.args.self.now.spare is.spare_is (at_here at)
              (ripe_here at) c.args.self.now.looked c.in_ok-rest.rest.items (rest_here at) is.looked;
          spare_is = subst (λ (spare : Watch). IsSpare limits run (c.args.self.now.first + c.args.self.now.place +
              (c.args.self.now.seen - c.args.self.now.place))
              (c.len.result - (c.args.self.now.seen - c.args.self.now.place)) spare) (sym c.replace.ensures.after)
              (spare_here limits run (c.args.self.now.first + c.args.self.now.place)
              (c.args.self.now.seen - c.args.self.now.place) c.in_ok-rest.rest.items c.args.self.now.spare
              c.args.self.now.watch (on_here at limits run is) c.in_ok-copy.copy
              (c.len.result - (c.args.self.now.seen - c.args.self.now.place)) c.in_ok-copy.ensures
              (ap (λ (n : ℕ). n - (c.args.self.now.seen - c.args.self.now.place))
              (omega (arith, c.len.ensures, c.in_ok-rest.rest.ok.0))));
        };
      };
      as_many = omega (arith, long_here at, at_here at);
    }

pub returns-then-not-is_ripe-clause-small : goal.returns-then-not-is_ripe-clause-small
returns-then-not-is_ripe-clause-small c = c.is_ripe.ensures.unripe c.if-not-is_ripe.true

pub returns-clause-small : goal.returns-clause-small
returns-clause-small c ahead small =
    let at = (goal.at.returns-clause-small c).In_ok-rest in
    let place : c.args.self.now.seen - c.args.self.now.place ≤ ahead + 1024 = omega (arith, small.seen) in
    let long : c.len.result ≡ length c.in_ok-rest.rest.items = omega (arith, c.len.ensures, c.in_ok-rest.rest.ok.0) in
    let events : length c.in_ok-rest.rest.items ≤ c.args.self.now.seen - c.args.self.now.place + ahead + 1 =
    omega (arith, long_here at, small.events) in
    record {
      small = record {
        place = place;
        reach = omega (arith, long, events);
        seen = omega arith;
        events = events;
      };
      fresh = omega arith;
    }
