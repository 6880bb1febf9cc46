use Rattle.std.proofs.Common.{List, ◌≡◌, ◌+◌, ℕ, arith, subst}
use Rattle.std.specs.Prelude.{drop}
use Rattle.std.proofs.lemmas.List.{take_rest}
use Rattle.stamp_runs.specs.declared.event.Event.{Event}
use Rattle.stamp_watch.specs.inner.Judging.{IsEndTold}
use Rattle.stamp_watch.proofs.Looking.{looked_within, told_at_front}
use Rattle.stamp_watch.proofs.course.Course.end_at_front.Goals as goal

pub overflow_add-from : goal.overflow_add-from
overflow_add-from c = omega (arith, c.requires.front.less, c.args.self.now.events.ok.0)

pub overflow_add-from-2 : goal.overflow_add-from-2
overflow_add-from-2 c = omega (
  arith,
  looked_within c.args.self.now.seen c.args.self.now.events.items c.args.event.now
      c.requires.front.less c.requires.front.read c.args.self.now.looked c.requires.on.course_of.looked,
  c.args.self.now.events.ok.0,
)

pub returns : goal.returns
returns c =
    let from : ℕ = c.args.self.now.seen + 1 + c.args.self.now.looked in
    let same : c.args.self.now.first + from ≡ c.args.self.now.first + c.args.self.now.seen + 1 +
    c.args.self.now.looked =
    omega arith in
    record {
      told = told_at_front c.args.self.now.seen c.args.self.now.events.items c.args.event.now c.requires.front.less
          c.requires.front.read c.args.self.now.looked (c.args.self.now.first + c.args.self.now.seen + 1)
          c.end_told.result c.requires.on.course_of.looked
          (subst (λ (n : ℕ). IsEndTold c.args.event.now n (drop from c.args.self.now.events.items) c.end_told.result)
          same (subst (λ (xs : List Event). IsEndTold c.args.event.now (c.args.self.now.first + from) (drop from xs)
          c.end_told.result) c.as_slice-events.ensures.value
          (subst (λ (ahead : List Event). IsEndTold c.args.event.now (c.args.self.now.first + from) ahead
          c.end_told.result) (take_rest c.as_slice-events.result.now from) c.end_told.ensures)));
    }
