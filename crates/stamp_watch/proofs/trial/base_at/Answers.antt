use Rattle.std.proofs.Common.{ℕ, ◌≡◌, ◌+◌, ◌<◌, ◌∙◌, List, arith, inl, inr, length, refl, subst, sym, zero-add, []}
use Rattle.std.specs.Prelude.{drop, take}
use Rattle.std.proofs.lemmas.Bool.{false≢true}
use Rattle.std.proofs.lemmas.List.{take_rest}
use Rattle.stamp_runs.specs.declared.event.Event.{Event}
use Rattle.stamp_sets.specs.declared.progress.Progress.TheVariants.{Going}
use Rattle.stamp_watch.specs.Judging.{IsJudging}
use Rattle.stamp_watch.specs.inner.Judging.{IsEndTold}
use Rattle.stamp_watch.proofs.Judging.{judging_first}
use Rattle.stamp_watch.proofs.Judged.{judging_here, judging_more}
use Rattle.stamp_watch.proofs.trial.base_at.Goals as goal
use Rattle.stamp_watch.proofs.trial.base_at.Goals.{in-Going, in_default}

pub loop-k-init : goal.loop-k-init
loop-k-init c = judging_first c.args.limits c.args.events.now c.in_ok-watch.watch c.in_ok-watch.ensures.watching
    c.in_ok-watch.ensures.untold c.requires.form

pub step-requires : goal.step-requires
step-requires c = record {
  past = take c.loop-k.k c.args.events.now;
  watching = c.loop-k.invariant.watching;
}

pub loop-k-preserved : goal.loop-k-preserved
loop-k-preserved c =
    let events : List Event = c.args.events.now in
    let k : ℕ = c.loop-k.k in
    let e : Event = c.index-events-k.result in
    let less : k < length events = omega (arith, c.loop-k-test.true, c.requires.within) in
    let going : c.in_ok-progress.progress ≡ Going = elim c.match-matches.branch [
      | in-Going w ↦ w.in-Going.is
      | in_default w ↦ absurd (false≢true (sym w.matches-is ∙ c.if-not-matches.false))
    ] in
    let told : IsEndTold e (0 + k + 1) (drop (k + 1) events) c.end_told-ends.result =
    subst (λ (n : ℕ). IsEndTold e (n + 1) (drop (k + 1) events) c.end_told-ends.result) (sym (zero-add k))
    (subst (λ (ahead : List Event). IsEndTold e (k + 1) ahead c.end_told-ends.result) (take_rest events (k + 1))
    c.end_told-ends.ensures) in
    judging_more c.args.limits 0 [] events c.args.most k e less c.index-events-k.is c.step.new.watch
    c.in_ok-progress.progress (c.in_ok-progress.ensures.step c.args.limits (0 + k) (take k events) (drop (k + 1) events)
    told (judging_here c.args.limits 0 [] events c.args.most k e less c.index-events-k.is c.loop-k.watch
    c.loop-k.invariant)) going

pub returns-then-not-matches : goal.returns-then-not-matches
returns-then-not-matches c = record {
  where_is = inl refl;
  judging = judging_first c.args.limits c.args.events.now c.in_ok-watch-2.watch c.in_ok-watch-2.ensures.watching
      c.in_ok-watch-2.ensures.untold c.requires.form;
}

pub returns : goal.returns
returns c =
    let same : c.loop-k.k ≡ c.args.place = omega (arith, c.loop-k-test.false, c.loop-k.auto.k-end) in
    record {
      where_is = inr refl;
      judging = subst (λ (n : ℕ). IsJudging c.args.limits n (take n c.args.events.now) (drop n c.args.events.now)
          c.loop-k.watch) same (subst (λ (n : ℕ). IsJudging c.args.limits n (take c.loop-k.k c.args.events.now)
          (drop c.loop-k.k c.args.events.now) c.loop-k.watch) (zero-add c.loop-k.k) c.loop-k.invariant);
    }
