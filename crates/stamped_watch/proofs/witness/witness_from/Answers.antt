use Rattle.std.proofs.Common.{ℕ, ◌≡◌, ◌+◌, ◌-◌, ◌++◌, List, Option, None, length, take, ap, arith, refl, rules}
use Rattle.std.proofs.Common.{subst, ◌∙◌}
use Rattle.std.specs.Prelude.{fold, map, min, option_map, slice_set, unwrap_or}
use Rattle.std.proofs.lemmas.List.{length-take-le, take_min}
use Rattle.stamp_explain.specs.declared.observed.Observation.{Observation}
use Rattle.stamp_runs.specs.declared.event.Event.{Event}
use Rattle.stamp_watch.specs.Names.{words_in}
use Rattle.stamp_watch.specs.Start.{waiting_of}
use Rattle.stamped_watch.specs.Calls.{Told, ended_call, first_in, open_in, return, told_beside, told_end, told_first}
use Rattle.stamped_watch.specs.Calls.{IsTold, observation_by, told_with, under_way}
use Rattle.stamped_watch.specs.declared.begun.Begun.{Begun}
use Rattle.stamped_watch.specs.Witness.{told_before}
use Rattle.stamped_watch.proofs.CallsTold.{events_told}
use Rattle.stamped_watch.proofs.Searching.{searched_if}
use Rattle.stamped_watch.proofs.witness.witness_from.Goals as goal

pub overflow_add-before : goal.overflow_add-before
overflow_add-before c =
    let items : List Event = c.args.judge.now.course.events.items in
    let events : List Event = c.kept_events-events.result.now in
    let kept : length events ≡ length items = ap (λ (xs : List Event). length xs) c.kept_events-events.ensures in
    let less : c.min.result ≡ min (c.args.number - c.args.judge.now.course.first) (length items) = search rules in
    let long : length (take c.min.result events) ≡ c.min.result =
    length-take-le c.min.result events (omega (arith, kept, less)) in
    omega (arith, long, less, c.args.judge.now.course.events.ok.0)

pub returns : goal.returns
returns c =
    let judge = c.args.judge.now in
    let x = c.args.ended.now in
    let items : List Event = judge.course.events.items in
    let place : ℕ = c.args.number - judge.course.first in
    let first : Told = told_first (waiting_of judge.course.base c.args.start) in
    let told : Told = told_before judge c.args.number c.args.start in
    let kept : c.kept_events-events.result.now ≡ items = search rules in
    let less : c.min.result ≡ min place (length items) = search rules in
    let within : take c.min.result c.kept_events-events.result.now ≡ take place items =
    ap (λ (xs : List Event). take c.min.result xs) kept ∙ ap (λ (n : ℕ). take n items) less ∙ take_min place items in
    let at : IsTold c.push_all.new.self told =
    subst (λ (xs : List Event). IsTold c.push_all.new.self (fold told_with first xs)) within
    (c.in_ok-push_all.ensures first refl c.in_ok-calls.ensures) in
    let by_number : c.in_ok-by_number.by_number.items ≡ told_beside x.lane told =
    c.in_ok-by_number.ensures ∙
    ap (λ (xs : List Observation). xs ++ under_way c.take.new.self.lanes.items)
    (ap (λ v. v.items) c.take.ensures.returned ∙ at.returned_are) ∙
    ap (λ (xs : List (Option Begun)). told.returned ++ under_way xs) (c.take.ensures.lanes ∙
    ap (λ (xs : List (Option Begun)). slice_set xs x.lane None) at.lanes_are) in
    let taken : c.take.result ≡ option_map (λ (b : Begun). b.first) (open_in told.lanes x.lane) =
    c.take.ensures.first ∙
    ap (λ (xs : List (Option Begun)). option_map (λ (b : Begun). b.first) (open_in xs x.lane)) at.lanes_are in
    let or_zero : c.unwrap_or-first.result ≡ unwrap_or c.take.result 0 = search rules in
    let began : c.unwrap_or-first.result ≡ first_in x.lane told =
    or_zero ∙ ap (λ (o : Option ℕ). unwrap_or o 0) taken in
    let counted : told.events ≡ first.events + length (take place items) = events_told first (take place items) in
    let next : length (take place items) + 1 ≡ told.events + 1 = omega (arith, counted) in
    let last : length (take c.min.result c.kept_events-events.result.now) + 1 ≡ told.events + 1 =
    ap (λ (xs : List Event). length xs + 1) within ∙ next in
    let ended : c.observed_call-call.result ≡ told_end x c.in-Some.reply told =
    c.observed_call-call.ensures.told ∙
    ap (λ (n : ℕ). ended_call x n (return (length (take c.min.result c.kept_events-events.result.now) + 1)
    c.in-Some.reply)) began ∙
    ap (λ (n : ℕ). ended_call x (first_in x.lane told) (return n c.in-Some.reply)) last in
    let same : c.as_slice.result.now ≡ c.in_ok-by_number.by_number.items = search rules in
    let others : c.in_ok-others.others.items ≡ map (observation_by (words_in c.args.run.now.names))
    (told_beside x.lane told) =
    c.in_ok-others.ensures ∙
    ap (λ (xs : List Observation). map (observation_by (words_in c.args.run.now.names)) xs) (same ∙ by_number) in
    searched_if c.args.run.now judge c.args.number x c.args.most c.args.start c.state_at-state.result
    c.state_at-state.ensures c.in-Some.reply (search rules) c.limits.result c.unwrap_or-width.result c.in_ok-others.others.items
    c.observed_call-call.result c.limits.ensures (search rules) others c.observed_call-call.ensures.call ended
    c.small_behind.result c.small_behind.ensures.found
