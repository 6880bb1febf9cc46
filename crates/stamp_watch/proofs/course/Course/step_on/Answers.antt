use Rattle.std.proofs.Common.{List, ◌≡◌, ◌+◌, ◌-◌, ◌≤◌, length, length-drop, get_or, arith, refl, subst}
use Rattle.std.specs.Prelude.{drop}
use Rattle.std.proofs.lemmas.Result.{IfOk-weaker}
use Rattle.stamp_runs.specs.declared.event.Event.{Event}
use Rattle.stamp_watch.proofs.Looking.{looked_all}
use Rattle.stamp_watch.proofs.TooFar.{front_waits, run_too_far}
use Rattle.stamp_watch.proofs.Kept.{kept_of, kept_same}
use Rattle.stamp_watch.proofs.course.Course.step_on.Goals as goal

pub end_at_front-ends-requires-clause-front : goal.end_at_front-ends-requires-clause-front
end_at_front-ends-requires-clause-front c = record {
  less = c.requires.more;
  read = subst (λ (xs : List Event). c.index-events-self.result ≡
      get_or xs c.args.self.now.seen c.index-events-self.result) c.as_slice-events.ensures.value
      c.index-events-self.is;
}

pub see-requires-clause-front : goal.see-requires-clause-front
see-requires-clause-front c = record {
  less = c.requires.more;
  read = subst (λ (xs : List Event). c.index-events-self.result ≡
      get_or xs c.args.self.now.seen c.index-events-self.result) c.as_slice-events.ensures.value
      c.index-events-self.is;
}

pub see-requires-clause-known : goal.see-requires-clause-known
see-requires-clause-known c = c.is_known.ensures.known c.if-is_known.true

pub returns-then-is_known-clause-onward : goal.returns-then-is_known-clause-onward
returns-then-is_known-clause-onward c =
    IfOk-weaker c.see.result _ _ (λ onward is. is c.args.ahead) c.see.ensures.onward

pub returns-then-is_known-clause-small : goal.returns-then-is_known-clause-small
returns-then-is_known-clause-small c =
    IfOk-weaker c.see.result _ _ (λ onward is. is c.args.ahead) c.see.ensures.small

pub returns-then-self-ahead-clause-onward : goal.returns-then-self-ahead-clause-onward
returns-then-self-ahead-clause-onward c = record {
  same = record {
    long = refl;
    courses = λ limits run is. record {
      on = is.on;
      looked = looked_all c.args.self.now.seen c.args.self.now.events.items c.index-events-self.result c.requires.more
          (subst (λ (xs : List Event). c.index-events-self.result ≡
          get_or xs c.args.self.now.seen c.index-events-self.result) c.as_slice-events.ensures.value
          c.index-events-self.is) (c.args.self.now.first + c.args.self.now.seen + 1)
          (c.len.result - c.args.self.now.seen - 1) c.end_at_front-ends.result
          (omega (arith, c.len.ensures, c.args.self.now.events.ok.0, c.requires.more))
          (c.is_known.ensures.unknown c.if-is_known.false) c.end_at_front-ends.ensures.told;
      spare_is = is.spare_is;
    };
  };
  near = record {
    events = omega (arith, c.len.ensures, c.args.self.now.events.ok.0, c.if-self-ahead.true);
    waits = front_waits c.args.self.now.events.items c.args.self.now.seen c.index-events-self.result c.requires.more
        (subst (λ (xs : List Event). c.index-events-self.result ≡
        get_or xs c.args.self.now.seen c.index-events-self.result) c.as_slice-events.ensures.value
        c.index-events-self.is) (c.args.self.now.first + c.args.self.now.seen + 1) c.end_at_front-ends.result
        (c.is_known.ensures.unknown c.if-is_known.false) c.end_at_front-ends.ensures.told;
  };
}

pub returns-then-self-ahead-clause-small : goal.returns-then-self-ahead-clause-small
returns-then-self-ahead-clause-small c fresh = record {
  place = fresh.small.place;
  reach = fresh.small.reach;
  seen = fresh.small.seen;
  events = fresh.small.events;
}

pub returns-clause-onward : goal.returns-clause-onward
returns-clause-onward c limits run is =
    let long = length-drop (c.args.self.now.seen + 1) c.args.self.now.events.items in
    let many : c.args.ahead ≤ length (drop (c.args.self.now.seen + 1) c.args.self.now.events.items) =
    omega (arith, long, c.len.ensures, c.args.self.now.events.ok.0, c.if-self-ahead.false) in
    run_too_far limits run c.args.self.now.first c.args.self.now.seen c.args.self.now.events.items
    c.args.self.now.base c.args.self.now.watch is.on c.index-events-self.result c.requires.more
    (subst (λ (xs : List Event). c.index-events-self.result ≡
    get_or xs c.args.self.now.seen c.index-events-self.result) c.as_slice-events.ensures.value
    c.index-events-self.is) c.args.most c.args.ahead (c.args.self.now.first + c.args.self.now.seen + 1)
    c.end_at_front-ends.result many (c.is_known.ensures.unknown c.if-is_known.false) c.end_at_front-ends.ensures.told

pub returns-clause-small : goal.returns-clause-small
returns-clause-small c fresh = record {
  place = fresh.small.place;
  reach = fresh.small.reach;
  seen = fresh.small.seen;
  events = fresh.small.events;
}

pub returns-then-self-ahead-clause-kept : goal.returns-then-self-ahead-clause-kept
returns-then-self-ahead-clause-kept c limits run is =
    kept_same limits run c.args.self.now _ (record { base = refl; first = refl; events = refl; seen = refl })
    (kept_of limits run c.args.self.now is c.requires.room)

pub returns-clause-kept : goal.returns-clause-kept
returns-clause-kept c limits run is =
    kept_same limits run c.args.self.now _ (record { base = refl; first = refl; events = refl; seen = refl })
    (kept_of limits run c.args.self.now is c.requires.room)
